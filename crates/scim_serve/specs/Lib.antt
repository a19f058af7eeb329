pub mod Occurrences
pub mod Operators
pub mod Peers
pub mod Serving
pub mod SettledStates
pub mod code
