pub mod Paths
pub mod code
