-- what public contracts cite
pub mod CandidateLaws
pub mod EntryLaws
pub mod WinningLaws
pub mod PathLaws
