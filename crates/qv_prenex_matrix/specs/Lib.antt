-- what public contracts cite
pub mod Waiting
pub mod NextLevels
pub mod Matrix
pub mod Rules
-- the inside
pub mod Finding
