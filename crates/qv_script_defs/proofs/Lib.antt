pub mod Commanding
pub mod Labelling
pub mod Steady
mod Running
mod Examples
