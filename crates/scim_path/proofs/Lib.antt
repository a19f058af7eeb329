pub mod TargetLemmas
pub mod Facts
