pub mod Added
pub mod Based
pub mod Fed
pub mod LaidSteps
