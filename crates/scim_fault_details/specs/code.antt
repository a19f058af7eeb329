-- Definitions for the code that looks for details.
pub mod BestName
pub mod Borrowed
