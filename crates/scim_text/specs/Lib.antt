pub mod Failures
pub mod Names
pub mod Spelling
pub mod Moments
pub mod Readings
pub mod MomentIn
