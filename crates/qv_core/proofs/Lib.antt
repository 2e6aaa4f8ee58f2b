pub mod Firsts
pub mod SearchExample
