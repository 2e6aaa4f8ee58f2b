pub mod DigitLemmas
pub mod SeenLemmas
pub mod LineLemmas
pub mod Running
pub mod PieceLemmas
mod TextExamples
