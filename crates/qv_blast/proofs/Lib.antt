pub mod Rooms
pub mod Formulas
pub mod FromOne
pub mod Lookups
pub mod Staying
pub mod Stepping
pub mod Values
pub mod Walking
