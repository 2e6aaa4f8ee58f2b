-- what public contracts cite
pub mod Passes
pub mod Names
pub mod Xors
pub mod Simps
pub mod PassLaws
