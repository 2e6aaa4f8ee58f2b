-- what public contracts cite
pub mod Texts
pub mod Ending
pub mod Answers
pub mod Solving
pub mod Checking
pub mod Laws
-- the inside
pub mod Values
pub mod Replies
pub mod Judging
