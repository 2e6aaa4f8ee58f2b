pub mod Formed
pub mod Standing
pub mod Halves
pub mod Pairs
pub mod Values
pub mod Members
pub mod Once
pub mod Levels
pub mod Kept
pub mod Placed
pub mod Gathered
pub mod Assembled
pub mod LineLemmas
pub mod TextLemmas
pub mod PieceLemmas
pub mod Closed
pub mod Truthful
mod TextExample
mod MeaningExample
mod TranslationExample
