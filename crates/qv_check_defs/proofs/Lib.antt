pub mod Tokens
pub mod Pieces
mod OutcomesExample
