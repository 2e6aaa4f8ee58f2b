pub mod Congruent
pub mod Valuing
pub mod Meanings
pub mod Building
pub mod Collecting
pub mod Representing
pub mod SumPass
pub mod Linking
pub mod Chaining
pub mod XorPass
pub mod Tables
pub mod Simping
pub mod Behind
mod SumsExample
mod XorsExample
mod SimpsExample
mod BehindExample
