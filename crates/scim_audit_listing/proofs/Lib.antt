pub mod Facts
mod FilteredLemmas
mod JsonLemmas
mod ListingLemmas
mod MarkLemmas
mod PlainLemmas
