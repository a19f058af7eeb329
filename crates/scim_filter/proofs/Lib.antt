pub mod ContainsLemmas
pub mod RowLemmas
pub mod LookLemmas
