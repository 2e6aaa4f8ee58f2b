-- what public contracts cite
pub mod Closing
pub mod Laws
-- the inside
pub mod Checked
