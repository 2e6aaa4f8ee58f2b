pub mod Stores
pub mod Placed
pub mod SideLaws
pub mod ClauseLaws
pub mod MarkLaws
pub mod PickLaws
pub mod SettleLaws
