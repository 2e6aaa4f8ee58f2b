-- what public contracts cite
pub mod Tallies
pub mod Ending
pub mod Answers
pub mod Calls
pub mod Solved
-- the inside
pub mod Between
