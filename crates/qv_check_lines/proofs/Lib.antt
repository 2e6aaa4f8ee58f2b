pub mod OwnFaults
pub mod Judged
pub mod Rewritten
pub mod Ended
pub mod TakenBy
