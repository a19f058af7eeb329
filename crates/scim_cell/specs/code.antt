-- How the code stores and checks rows.
pub mod Fields
pub mod Inside
pub mod Keys
