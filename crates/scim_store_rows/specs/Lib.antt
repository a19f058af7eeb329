pub mod Stands
pub mod Finding
pub mod Auditing
pub mod code
pub mod Audit
pub mod AuditBack
