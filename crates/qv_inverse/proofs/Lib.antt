pub mod Newton
pub mod RowLemmas
