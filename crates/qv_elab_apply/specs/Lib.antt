-- the inside
pub mod Outlines
pub mod Chained
pub mod ChainOf
