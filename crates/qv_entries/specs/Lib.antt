-- what public contracts cite
pub mod Rows
pub mod Holding
-- the inside
pub mod Conjunctions
pub mod Tables
