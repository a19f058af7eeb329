-- Definitions for the code that makes resources of items.
pub mod Stamps
