pub mod Closings
pub mod Leads
pub mod Levels
pub mod Rests
pub mod Served
pub mod Waiting
pub mod Wholes
