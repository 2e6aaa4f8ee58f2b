pub mod NeededExample
pub mod Kept
pub mod Lines
pub mod Marked
pub mod Noted
pub mod Written
pub mod Sectioned
pub mod Found
mod FoundExample
pub mod Told
pub mod Trims
