-- what public contracts cite
pub mod Readings
pub mod Checked
-- the inside
pub mod PutIn
pub mod DepthUnder
pub mod PassDown
