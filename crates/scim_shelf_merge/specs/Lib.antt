pub mod Faults
pub mod Reads
pub mod Merging
pub mod Merged
pub mod code
