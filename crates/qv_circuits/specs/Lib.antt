-- what public contracts cite
pub mod Adding
pub mod Fitting
pub mod Encoding
-- the inside
pub mod Bitwise
pub mod Kinds
pub mod Steps
