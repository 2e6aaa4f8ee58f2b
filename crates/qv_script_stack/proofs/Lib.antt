pub mod Sized
pub mod Holding
pub mod Asserting
pub mod Stepping
pub mod Undefining
