-- the inside
pub mod Told
