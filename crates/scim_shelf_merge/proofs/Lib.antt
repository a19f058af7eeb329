pub mod OwnerLemmas
pub mod OutcomeLemmas
pub mod MergeLemmas
