-- what public contracts cite
pub mod Conjuncts
-- the inside
pub mod Parts
pub mod Listing
pub mod Splitting
pub mod Trying
