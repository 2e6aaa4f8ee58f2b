pub mod Firsts
pub mod Playing
pub mod Raising
pub mod Standing
