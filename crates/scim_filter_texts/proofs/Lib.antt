pub mod Facts
pub mod NeededLemmas
