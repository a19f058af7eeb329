-- Specifications of code: the state of the reader of a message.
pub mod Inside
