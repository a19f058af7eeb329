pub mod ExchangeLemmas
pub mod AskLemmas
pub mod BodyLemmas
pub mod IntegerLemmas
pub mod NameLemmas
pub mod WantedLemmas
pub mod Facts
