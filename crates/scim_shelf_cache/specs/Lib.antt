pub mod Caches
pub mod code
