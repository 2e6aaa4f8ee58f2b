-- what public contracts cite
pub mod Drawing
pub mod Values
