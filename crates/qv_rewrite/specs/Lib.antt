-- the inside
pub mod Sweep
pub mod Steps
pub mod Made
pub mod FurtherRules
