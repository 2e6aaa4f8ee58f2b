-- what public contracts cite
pub mod Refuted
pub mod Judging
pub mod Ending
pub mod Rewriting
-- the inside
pub mod Refusing
pub mod Steps
