pub mod Insides
pub mod RowInsides
pub mod Downs
pub mod WayLaws
pub mod RowTerms
pub mod SceneLaws
pub mod StepLaws
pub mod GoingLaws
