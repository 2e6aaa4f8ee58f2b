pub mod Parting
pub mod Walks
pub mod Attributes
pub mod Spelled
pub mod Naming
pub mod Capped
