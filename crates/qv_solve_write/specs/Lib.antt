-- what public contracts cite
pub mod Said
-- the inside
pub mod Ranges
pub mod Places
pub mod Writers
