pub mod Grown
pub mod Begun
pub mod Valued
