-- what public contracts cite
pub mod Refuting
pub mod Greatest
-- the inside
pub mod Feeding
