pub mod Exact
pub mod Numbered
pub mod Turns
pub mod Limits
pub mod Checked
pub mod Unfinished
mod VerdictExample
