-- what public contracts cite
pub mod Played
pub mod Queries
pub mod Finals
pub mod Bases
pub mod Units
pub mod Records
pub mod Charging
pub mod Views
pub mod UnitLaws
pub mod RecordLaws
-- the inside
pub mod BudgetLaws
