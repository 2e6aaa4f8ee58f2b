pub mod Fewer
pub mod Marks
pub mod Searches
pub mod Spared
pub mod Steps
