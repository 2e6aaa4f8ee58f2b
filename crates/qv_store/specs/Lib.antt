-- what public contracts cite
pub mod Depth
pub mod Nodes
pub mod Stores
pub mod Walks
pub mod Evaluating
pub mod Problems
pub mod Replacing
-- the inside
pub mod Facts
pub mod Kept
pub mod Visits
