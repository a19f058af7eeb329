pub mod AnswerLemmas
pub mod Facts
pub mod InputLemmas
pub mod LineLemmas
pub mod OutputLemmas
