-- what public contracts cite
pub mod Searching
pub mod Without
