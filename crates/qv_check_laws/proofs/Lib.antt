pub mod Shows
mod WorkedExamples
pub mod Answers
