-- what public contracts cite
pub mod Files
