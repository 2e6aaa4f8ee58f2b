-- what public contracts cite
pub mod Spans
pub mod Spots
pub mod Charges
pub mod Playing
pub mod Asking
pub mod Entering
pub mod Naming
pub mod Starting
pub mod Counts
pub mod Faults
