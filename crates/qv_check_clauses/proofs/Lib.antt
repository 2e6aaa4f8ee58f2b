mod Refuted
mod Written
mod Counted
mod Followed
mod ClausesExample
pub mod Listed
