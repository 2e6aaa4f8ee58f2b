pub mod Bases
mod BasesExample
pub mod Fresh
pub mod Following
pub mod Growing
pub mod Positions
pub mod Tallies
pub mod Conflicts
pub mod Valuing
pub mod Words
mod BelowGame
mod BelowUnits
mod DecidedGame
mod ApartGame
mod GreatestGame
mod ThreeLevelsGame
pub mod Keeping
pub mod Linking
pub mod Standing
pub mod Differing
pub mod Working
