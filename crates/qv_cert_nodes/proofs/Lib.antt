pub mod Kept
pub mod Grown
pub mod Clean
pub mod FirstFaults
pub mod Puts
pub mod Climbing
pub mod Gathering
