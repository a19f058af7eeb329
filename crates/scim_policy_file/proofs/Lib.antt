pub mod FileLemmas
pub mod ListLemmas
pub mod PathLemmas
pub mod ShapeLemmas
