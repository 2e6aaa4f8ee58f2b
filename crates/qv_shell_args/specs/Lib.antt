-- what public contracts cite
pub mod Call
pub mod Commands
pub mod Number
-- the inside
pub mod Answers
