-- Specifications of code: how patches and results are represented, and which data is recorded to detect
-- changes.
pub mod Before
pub mod Inside
pub mod Lengths
pub mod Outcomes
pub mod Touched
pub mod Capped
pub mod Groups
