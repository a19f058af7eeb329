pub mod Targets
pub mod Endpoints
pub mod Routes
pub mod Parameters
pub mod code
