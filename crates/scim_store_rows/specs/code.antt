-- How the tables are searched.
pub mod Finding
pub mod Spans
