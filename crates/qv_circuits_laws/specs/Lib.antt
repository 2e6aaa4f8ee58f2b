-- what public contracts cite
pub mod CircuitLaws
pub mod RoutineLaws
pub mod ClauseLaws
pub mod PassNodeLaws
pub mod Standing
