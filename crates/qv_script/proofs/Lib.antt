pub mod Calling
pub mod Following
pub mod Labelling
pub mod Fronts
pub mod Unlabelled
pub mod Outsets
mod BeginningsExample
