pub mod Standing
pub mod Queries
pub mod Moves
pub mod Complement
