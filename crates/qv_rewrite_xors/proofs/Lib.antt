pub mod Fitting
pub mod Standing
pub mod Found
pub mod Applying
