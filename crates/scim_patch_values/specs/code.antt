-- Specifications of code: collecting the fields that a filter describes, and finding listed texts.
pub mod Gathered
pub mod Listed
