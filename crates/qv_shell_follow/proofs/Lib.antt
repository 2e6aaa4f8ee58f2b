mod Sections
mod Leading
mod AnswersExample
pub mod ReadOn
pub mod Solving
pub mod Starting
