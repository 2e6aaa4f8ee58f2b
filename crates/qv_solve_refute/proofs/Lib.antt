pub mod Blasted
pub mod Charged
pub mod Fed
pub mod GreatestVariable
pub mod GreatestExample
pub mod Owed
pub mod Tried
