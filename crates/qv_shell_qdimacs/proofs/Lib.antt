mod Filled
mod Printed
mod Answered
mod Written
pub mod Solved
mod Judged
mod Whole
pub mod Accepted
mod TextsExample
