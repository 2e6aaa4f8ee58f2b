-- what public contracts cite
pub mod PrenexLaws
pub mod FormLaws
pub mod MatrixLaws
pub mod RuleLaws
