pub mod Grown
pub mod Sown
pub mod Placing
pub mod Behind
pub mod SubtreesExample
