pub mod Swept
pub mod Stepping
pub mod Waiting
pub mod Fitting
pub mod FurtherParts
pub mod FurtherLaws
