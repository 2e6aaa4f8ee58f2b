-- what public contracts cite
pub mod BlasterLaws
pub mod Blasters
pub mod Faults
pub mod Sizes
pub mod States
