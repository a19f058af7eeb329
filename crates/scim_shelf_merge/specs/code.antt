-- Definitions for the code that looks for other resources.
pub mod Owners
