pub mod Distinct
pub mod Agreement
pub mod Searching
