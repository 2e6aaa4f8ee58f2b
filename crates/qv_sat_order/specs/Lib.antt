-- what public contracts cite
pub mod Ranking
-- the inside
pub mod Tournament
