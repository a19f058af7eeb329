-- What other crates may use of the proofs here.
pub use Rattle.scim_query.proofs.AlikeLemmas.{alike_pages, seen_alike}
pub use Rattle.scim_query.proofs.ArrangedLemmas.{Says, page_says}
pub use Rattle.scim_query.proofs.PagerLemmas.{in_order_of_id, taken_unmatched}
