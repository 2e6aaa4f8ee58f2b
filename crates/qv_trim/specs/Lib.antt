-- what public contracts cite
pub mod Needed
pub mod Sections
pub mod TrimLaws
-- the inside
pub mod Texts
pub mod Entries
pub mod Marking
pub mod Writing
