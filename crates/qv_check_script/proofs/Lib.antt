mod Lines
mod Heading
mod Closing
mod Answered
pub mod Checked
mod Sectioning
pub mod Leading
pub mod Limits
pub mod Wanting
mod LastLinesExample
pub mod Whole
pub mod Unfinished
pub mod Truthful
