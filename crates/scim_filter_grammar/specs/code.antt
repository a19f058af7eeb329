-- Definitions for the code that reads filters and paths.
pub mod Cuts
pub mod Inside
