-- the inside
pub mod Rewriting
