-- what public contracts cite, or will cite
pub mod Faults
pub mod State
pub mod Texts
pub mod Logics
pub mod Settings
pub mod Parts
pub mod Moves
pub mod Labels
pub mod Commands
pub mod Checks
pub mod StateLaws
