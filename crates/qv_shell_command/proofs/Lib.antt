pub mod Limiting
pub mod Moving
