-- the inside
pub mod Denials
pub mod Models
