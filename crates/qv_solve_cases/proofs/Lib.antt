pub mod Lines
mod Charging
mod Covers
