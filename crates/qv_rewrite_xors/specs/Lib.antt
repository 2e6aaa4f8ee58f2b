-- the inside
pub mod Held
