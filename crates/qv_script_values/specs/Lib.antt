-- what public contracts cite
pub mod Kept
pub mod ValueText
pub mod SymbolText
