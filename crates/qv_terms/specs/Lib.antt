-- what public contracts cite
pub mod View
