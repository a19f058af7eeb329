pub mod ContentLemmas
pub mod RoundLemmas
pub mod Facts
