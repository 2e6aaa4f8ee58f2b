-- what public contracts cite
pub mod Starts
pub mod Steps
-- the inside
pub mod Numbers
