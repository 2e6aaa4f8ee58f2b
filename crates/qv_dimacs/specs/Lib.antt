-- what public contracts cite
pub mod Text
pub mod Clauses
pub mod Reading
-- the inside
pub mod Seen
pub mod Machine
pub mod View
pub mod Taking
