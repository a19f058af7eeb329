pub mod LookLemmas
pub mod WindowLemmas
pub mod IdLemmas
pub mod RowLemmas
pub mod ColumnLemmas
pub mod CauseLemmas
