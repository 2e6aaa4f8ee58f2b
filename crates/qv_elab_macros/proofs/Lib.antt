pub mod Insertion
pub mod UsedInStore
pub mod Peaks
pub mod Limits
pub mod Limited
