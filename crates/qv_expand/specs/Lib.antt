-- what public contracts cite
pub mod Trees
pub mod Charges
-- the inside
pub mod Growth
pub mod Tasks
