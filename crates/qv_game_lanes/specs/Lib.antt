-- what public contracts cite
pub mod Lanes
pub mod LaneLaws
pub mod Asking
