pub mod Moves
pub mod Blanks
pub mod Lengths
pub mod Parens
pub mod Ahead
pub mod Feeding
pub mod Listing
pub mod Standing
pub mod Fronts
pub mod Longest
mod TokenExamples
