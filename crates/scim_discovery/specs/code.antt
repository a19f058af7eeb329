-- Definitions for the code that describes schemas.
pub mod Listed
