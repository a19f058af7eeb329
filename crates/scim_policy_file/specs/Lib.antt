pub mod code
pub mod File
pub mod Lists
pub mod Paths
pub mod Targets
