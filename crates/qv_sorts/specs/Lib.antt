-- what public contracts cite
pub mod Names
pub mod Search
pub mod Faults
pub mod Laws
-- the inside
pub mod Groups
