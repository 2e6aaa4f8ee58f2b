-- what public contracts cite
pub mod Held
pub mod Steps
pub mod Changes
pub mod HeldLaws
