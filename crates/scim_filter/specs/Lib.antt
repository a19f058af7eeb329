pub mod Relation
pub mod Truth
pub mod code
