-- How the causes are looked for.
pub mod Looks
pub mod Faults
