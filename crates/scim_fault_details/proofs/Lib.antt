pub mod ShapeLemmas
pub mod WordLemmas
