-- Conversions of the program's values to the specification's types, and the refusals for faults.
pub mod Faults
pub mod Views
