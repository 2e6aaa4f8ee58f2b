pub mod Accepting
pub mod Alike
pub mod Concluding
pub mod Counted
pub mod Covering
pub mod Decisions
pub mod Deleting
pub mod Depending
pub mod Entries
pub mod Holdings
pub mod Feeding
pub mod Fronts
pub mod Jumping
pub mod Learning
pub mod LeftAside
pub mod Naming
pub mod Ordered
pub mod Picking
pub mod Reducing
pub mod Rising
pub mod Settling
pub mod Steps
pub mod Trimming
pub mod Unvalued
pub mod Valuations
pub mod Whole
mod FeedingExample
mod PickingExample
