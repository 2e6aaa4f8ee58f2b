-- what public contracts cite
pub mod Ending
pub mod Reading
pub mod BesideLaws
pub mod Wanting
pub mod Turns
