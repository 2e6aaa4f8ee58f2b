pub mod Said
pub mod Thinned
mod ThinningExample
