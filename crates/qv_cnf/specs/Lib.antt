-- what public contracts cite
pub mod Counting
pub mod Derivation
pub mod Laws
pub mod Listing
pub mod Literal
pub mod LratLine
pub mod Rat
pub mod Refutation
pub mod Rup
pub mod Truth
-- the inside
pub mod Blocks
pub mod Live
pub mod Runs
pub mod Spans
