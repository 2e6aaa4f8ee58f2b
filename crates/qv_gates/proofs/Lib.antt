pub mod Checking
mod ClosingExample
pub mod Following
