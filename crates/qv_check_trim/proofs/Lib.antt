mod Taken
mod Asked
mod Apart
mod Firsts
mod Between
mod Standing
mod Kept
pub mod Can
mod Checks
mod Printed
mod Again
