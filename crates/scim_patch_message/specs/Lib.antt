pub mod Readings
pub mod PathSteps
pub mod Messages
pub mod code
