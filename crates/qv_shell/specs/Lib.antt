-- what public contracts cite
pub mod Words
pub mod Opening
pub mod Requests
pub mod Checking
pub mod Lrat
pub mod Trimming
pub mod Clauses
pub mod Formulas
pub mod Host
pub mod Solving
pub mod Bench
