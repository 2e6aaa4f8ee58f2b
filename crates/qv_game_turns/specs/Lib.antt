-- what public contracts cite
pub mod Turns
-- the inside
pub mod Moves
