pub mod Resuming
pub mod Holding
pub mod Departing
pub mod Inside
pub mod Letting
pub mod Annotating
pub mod Quantifiers
pub mod Begun
