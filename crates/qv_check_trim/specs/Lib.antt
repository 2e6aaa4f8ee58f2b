-- what public contracts cite
pub mod Trimmed
pub mod TrimmedLaws
pub mod Printing
pub mod Sections
-- the inside
pub mod Taking
