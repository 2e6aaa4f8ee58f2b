-- what public contracts cite
pub mod Targets
pub mod Offers
pub mod Chosen
