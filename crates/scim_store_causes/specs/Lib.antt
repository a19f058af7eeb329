pub mod Files
pub mod Objects
pub mod Ids
pub mod Audit
pub mod Causes
pub mod code
