-- what public contracts cite
pub mod PlayLaws
