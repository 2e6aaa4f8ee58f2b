pub mod Slots
pub mod FirstBlocks
pub mod Leading
pub mod OneLed
pub mod GrownEntries
pub mod AllLed
pub mod Rounds
pub mod KeptExample
