pub mod Bridging
