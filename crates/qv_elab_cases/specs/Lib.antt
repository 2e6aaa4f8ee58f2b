-- the inside
pub mod Sessions
