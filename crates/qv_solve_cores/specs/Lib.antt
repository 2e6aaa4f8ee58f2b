-- what public contracts cite
pub mod Cores
pub mod CoreLaws
-- the inside
pub mod Marks
pub mod Trying
