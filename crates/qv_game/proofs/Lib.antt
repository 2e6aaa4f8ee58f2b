pub use Rattle.qv_game_state.proofs.Counting
pub mod Rounds
pub mod Kept
pub mod Only
pub mod Offered
