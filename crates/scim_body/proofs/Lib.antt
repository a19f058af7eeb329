pub mod BodyLemmas
pub mod CollectedLemmas
pub mod LeafTables
pub mod GivenFields
pub mod GivenRows
pub mod DraftLemmas
pub mod Facts
mod NumberLemmas
pub mod Views
mod ReadingLemmas
