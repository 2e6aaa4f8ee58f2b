pub mod Nodes
pub mod Written
