-- what public contracts cite
pub mod FinalLaws
pub mod StepLaws
