-- what public contracts cite
pub mod Bridge
pub mod BridgeLaws
