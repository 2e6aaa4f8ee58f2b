-- what public contracts cite
pub mod Bytes
pub mod Reading
pub mod Grammar
pub mod Progress
pub mod Whole
pub mod Spelling
-- the inside
pub mod Scanning
pub mod Inside
