pub mod Outlined
pub mod Chaining
pub mod Paired
pub mod Conjoined
pub mod Applications
