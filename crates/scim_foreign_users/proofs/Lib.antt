pub mod ExportLemmas
pub mod ItemLemmas
pub mod ResourceLemmas
pub mod ListLemmas
