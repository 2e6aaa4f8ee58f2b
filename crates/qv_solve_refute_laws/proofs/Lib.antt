pub mod NoModels
pub mod FinalTerms
pub mod FinalUnits
pub mod StepIds
