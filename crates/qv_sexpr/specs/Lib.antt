-- what public contracts cite
pub mod Limits
pub mod Script
pub mod Items
pub mod Reader
pub mod Calls
pub mod Causes
pub mod Counted
pub mod Copying
-- the inside
pub mod Building
pub mod Input
