-- what public contracts cite
pub mod Posed
-- the inside
pub mod Blocks
pub mod Constants
pub mod Prefixes
