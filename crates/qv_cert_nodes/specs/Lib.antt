-- what public contracts cite
pub mod Lists
pub mod Pushing
-- the inside
pub mod Putting
