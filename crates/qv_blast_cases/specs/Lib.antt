-- the inside
pub mod Arguments
