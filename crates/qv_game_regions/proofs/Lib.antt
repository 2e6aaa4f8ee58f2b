pub mod Equations
pub mod Blocks
pub mod Fixings
