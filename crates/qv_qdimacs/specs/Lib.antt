-- what public contracts cite
pub mod BooleanMeaning
pub mod Outer
pub mod Translation
pub mod Laws
pub mod Text
pub mod Reading
-- the inside
pub mod Formulas
pub mod Leaves
pub mod Ahead
pub mod Answers
