mod Answered
pub mod Filled
pub mod Printing
mod Setting
mod Zeros
pub mod Asking
mod Refusing
mod Rechecked
