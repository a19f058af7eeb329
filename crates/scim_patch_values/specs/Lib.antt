pub mod Described
pub mod Fields
pub mod Matches
pub mod Found
pub mod code
