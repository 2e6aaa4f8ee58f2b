-- what public contracts cite
pub mod Verdict
pub mod Laws
-- the inside
pub mod Judging
