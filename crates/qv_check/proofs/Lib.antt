pub mod Shown
pub mod ListedLines
pub mod Left
pub mod Opened
pub mod Ended
