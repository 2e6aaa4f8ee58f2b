-- what public contracts cite
pub mod Skolems
pub mod Blocks
-- the inside
pub mod Chains
pub mod Slots
