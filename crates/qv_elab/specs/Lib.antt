-- what public contracts cite
pub mod ReadBodies
-- the inside
pub mod Begun
pub mod ParameterLists
