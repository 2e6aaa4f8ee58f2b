pub mod Formulas
pub mod Definitions
pub mod Asked
pub mod Assumed
pub mod Labelled
