-- what public contracts cite
pub mod Thinning
-- the inside
pub mod Saying
