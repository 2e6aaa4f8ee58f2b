mod Shown
pub mod Zeros
mod CoreTexts
