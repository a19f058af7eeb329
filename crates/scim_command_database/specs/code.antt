-- The errors of private functions of the commands, and the state of the visitor of `export`.
pub mod Exits
pub mod Documents
