pub mod Blasted
pub mod Given
pub mod Stepped
