-- the inside
pub mod Alike
