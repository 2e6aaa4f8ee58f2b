-- what public contracts cite
pub mod Sections
pub mod Measured
pub mod SectionLaws
