-- what public contracts cite
pub mod Flat
pub mod Places
pub mod Listed
pub mod Inside
-- the inside
pub mod Bindings
pub mod Prefixes
pub mod Tables
