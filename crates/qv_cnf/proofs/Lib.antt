pub mod BlockLaws
pub mod Derivations
pub mod Living
pub mod Ordered
pub mod Packing
pub mod Rising
pub mod RunLaws
pub mod Soundness
pub mod RatSoundness
pub mod Refuted
mod RatExample
mod RefutationExample
mod DerivingExample
