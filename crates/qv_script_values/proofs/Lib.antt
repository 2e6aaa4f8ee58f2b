pub mod KeptLemmas
pub mod DigitLemmas
mod PrintingExamples
