-- what public contracts cite
pub mod Naming
pub mod Rebuilt
pub mod Memos
pub mod Rebuilding
pub mod Sides
-- the inside
pub mod Splitting
