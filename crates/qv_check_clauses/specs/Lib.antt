-- what public contracts cite
pub mod Clauses
pub mod ClausesLaws
-- the inside
pub mod Sections
pub mod Following
