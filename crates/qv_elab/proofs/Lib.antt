pub mod Starting
pub mod Arriving
pub mod OwnReadings
pub mod ReadParameters
