-- the inside
pub mod Ready
