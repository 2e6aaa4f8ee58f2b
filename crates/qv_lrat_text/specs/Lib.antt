-- what public contracts cite
pub mod Words
pub mod Decimal
pub mod Grammar
pub mod Spelling
-- the inside
pub mod Reading
