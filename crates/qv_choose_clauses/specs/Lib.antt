-- what public contracts cite
pub mod Defining
pub mod Placing
-- the inside
pub mod Sides
pub mod Clauses
pub mod Conjuncts
pub mod Implying
