-- what public contracts cite
pub mod Entries
pub mod TrailState
-- the inside
pub mod Attaching
pub mod Choosing
pub mod Keeping
pub mod Scanning
pub mod Storing
pub mod Table
pub mod Valued
pub mod Viewed
pub mod Visiting
pub mod Watching
