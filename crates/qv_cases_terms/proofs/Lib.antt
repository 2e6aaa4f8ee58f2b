pub mod Leaves
pub mod Growing
pub mod AllLeaves
pub mod Marks
