pub mod Covering
pub mod Firsts
pub mod Conjunctions
pub mod ShallowWords
pub mod Tables
