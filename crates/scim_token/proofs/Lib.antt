pub mod EntryLemmas
pub mod LineLemmas
