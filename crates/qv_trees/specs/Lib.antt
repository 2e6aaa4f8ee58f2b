-- what public contracts cite
pub mod Subtrees
-- the inside
pub mod Planted
pub mod Places
