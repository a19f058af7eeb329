-- The states of the code's own values.
pub mod Names
