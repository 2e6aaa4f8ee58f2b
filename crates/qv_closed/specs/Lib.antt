-- what public contracts cite
pub mod Cores
