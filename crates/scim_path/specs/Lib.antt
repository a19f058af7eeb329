pub mod Paths
pub mod Results
pub mod Targets
