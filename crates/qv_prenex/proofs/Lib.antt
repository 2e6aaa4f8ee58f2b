pub mod Placing
pub mod Leaves
pub mod Prefixing
pub mod Problems
pub mod Tasks
