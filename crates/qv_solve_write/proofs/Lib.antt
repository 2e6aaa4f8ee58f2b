pub mod Standing
pub mod Lines
pub mod Ranged
pub mod Behind
pub mod Written
pub mod Taken
