pub mod Archives
pub mod Audit
pub mod Explaining
pub mod Exports
pub mod Faults
pub mod Merges
pub mod Works
pub mod code
