pub mod Literals
pub mod Feeding
pub mod Growing
pub mod Asked
pub mod Placing
pub mod Solved
pub mod Narrowing
