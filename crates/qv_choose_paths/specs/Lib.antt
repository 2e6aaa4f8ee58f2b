-- what public contracts cite
pub mod Rows
pub mod Looks
pub mod Sights
pub mod Steps
