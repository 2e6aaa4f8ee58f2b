-- what public contracts cite
pub mod Writing
pub mod WritingLaws
