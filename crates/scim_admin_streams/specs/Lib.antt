pub mod AuditJobs
pub mod ExportJobs
pub mod Faults
pub mod Shelves
pub mod code
