-- Definitions for the code that reads policy files.
pub mod Standings
pub mod Written
