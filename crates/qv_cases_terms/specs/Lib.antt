-- what public contracts cite
pub mod Leaves
pub mod Posable
-- the inside
pub mod Free
