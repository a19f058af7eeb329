-- How the code writes JSON, reads the items of a list, and records the items that it has read.
pub mod Listed
pub mod Taken
