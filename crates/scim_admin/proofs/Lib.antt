pub mod AnswerLemmas
pub mod KeepingLemmas
