pub mod Methods
pub mod Refusals
pub mod Rows
