-- what public contracts cite
pub mod Solutions
pub mod Faults
-- the inside
pub mod Answering
