-- what public contracts cite
pub use Rattle.qv_game_state.specs.Counts
pub use Rattle.qv_game_state.specs.Faults
pub use Rattle.qv_game_state.specs.Starting
pub mod Played
-- the inside
pub mod Offered
pub mod Queries
pub mod WholeGames
