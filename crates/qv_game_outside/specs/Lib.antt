-- what public contracts cite
pub mod Outside
