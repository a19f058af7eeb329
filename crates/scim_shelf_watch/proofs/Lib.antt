pub mod WatchedLemmas
pub mod KeptLemmas
pub mod Facts
