-- what public contracts cite
pub mod Metered
pub mod Checks
pub mod PrintedLaws
-- the inside
pub mod Values
pub mod Refusals
