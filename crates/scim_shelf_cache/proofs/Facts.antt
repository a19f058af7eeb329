-- What other crates may use of the proofs here.
pub use Rattle.scim_shelf_cache.proofs.ContentLemmas.{cached_all}
pub use Rattle.scim_shelf_cache.proofs.RoundLemmas.{lower_looked, lower_store, round_looked}
