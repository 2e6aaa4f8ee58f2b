-- what public contracts cite
pub mod Runs
pub mod Slots
pub mod RunLaws
