-- what public contracts cite
pub mod Force
pub mod Kept
pub mod KeptLaws
pub mod Ids
pub mod WatchedArgs
pub mod Variables
pub mod Quantifying
pub mod Headed
pub mod Watching
