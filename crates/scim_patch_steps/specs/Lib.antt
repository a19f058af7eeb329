pub mod Kept
pub mod Laws
pub mod Patch
pub mod code
pub mod Changes
pub mod Table
pub mod Steps
pub mod Work
