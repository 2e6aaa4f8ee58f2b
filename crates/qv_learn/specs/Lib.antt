-- what public contracts cite
pub mod Learning
-- the inside
pub mod Analysing
pub mod Effort
pub mod Flags
pub mod Frontiers
pub mod Gathering
pub mod Marking
pub mod Refuting
pub mod Searching
pub mod Using
