pub mod Powering
pub mod Fitting
pub mod Found
pub mod Applying
