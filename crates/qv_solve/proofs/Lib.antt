pub mod Metered
pub mod Owed
pub mod Kept
pub mod Constants
pub mod Answered
