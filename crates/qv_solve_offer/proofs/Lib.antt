-- what other crates use
pub mod Staying
-- the inside
pub mod Parts
pub mod PartsExample
pub mod Valued
pub mod ValuedExample
