-- what public contracts cite
pub mod Calls
pub mod Judged
pub mod Shelving
-- the inside
pub mod Grouping
pub mod Indexing
pub mod Marking
