-- Definitions for the code that computes decisions.
pub mod Asked
pub mod Inside
pub mod Steps
pub mod PatternWalk
pub mod ValueWalk
pub mod Walk
