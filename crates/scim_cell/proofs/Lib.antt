pub mod IdLemmas
pub mod IdOrderLemmas
pub mod FieldLemmas
pub mod KeptLemmas
pub mod EqualityLemmas
pub mod Facts
pub mod KeyLemmas
pub mod RestrictedLemmas
