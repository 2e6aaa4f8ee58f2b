pub mod Lost
pub mod Scripts
