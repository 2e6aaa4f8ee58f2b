-- what public contracts cite
pub mod BuildingLaws
pub mod QueryLaws
pub mod Fixings
pub mod PointLaws
