-- what public contracts cite
pub mod Beside
pub mod Outcome
pub mod Limits
