-- what public contracts cite
pub mod SectionLaws
pub mod ByLine
