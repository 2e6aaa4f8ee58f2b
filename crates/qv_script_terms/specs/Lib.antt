-- what public contracts cite
pub mod Labelling
pub mod Beginnings
-- the inside
pub mod Told
pub mod Defined
pub mod Asking
