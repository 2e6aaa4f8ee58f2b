pub mod Added
pub mod Ranked
pub mod Rounds
pub mod Running
pub mod Turns
pub mod KindLaws
pub mod MadeLists
