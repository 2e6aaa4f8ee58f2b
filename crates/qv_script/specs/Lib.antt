-- what public contracts cite
pub mod Beginnings
