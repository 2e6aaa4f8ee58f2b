pub mod Trees
pub mod Passing
pub mod Machines
pub mod Running
pub mod MatrixSteps
mod Implied
