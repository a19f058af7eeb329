-- Definitions for the code that holds drafts and reads bodies.
pub mod Inside
