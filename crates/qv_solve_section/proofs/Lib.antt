pub mod Lined
pub mod Closed
pub mod PrintedSections
