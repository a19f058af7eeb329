-- How the code stores, makes and checks parts.
pub mod Chain
pub mod Grouping
pub mod Inside
