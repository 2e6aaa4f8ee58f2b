-- the inside
pub mod Pieces
