-- what public contracts cite
pub mod Parts
pub mod Sharing
-- the inside
pub mod Asking
pub mod Valued
