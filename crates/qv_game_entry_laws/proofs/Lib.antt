pub mod Taken
pub mod Equations
pub mod Forced
pub mod Failed
pub mod Complement
pub mod Linking
mod EntriesExample
pub mod Literals
pub mod Occurring
pub mod Fixed
pub mod Models
pub mod Runs
pub mod Named
pub mod Places
pub mod Leading
pub mod Assuming
