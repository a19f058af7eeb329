-- Definitions for the code that evaluates filters.
pub mod Cells
pub mod Looks
