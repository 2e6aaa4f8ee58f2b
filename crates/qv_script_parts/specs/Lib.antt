-- what public contracts cite
pub mod Parted
pub mod Walking
pub mod Meant
-- the inside
pub mod Options
pub mod Spelling
