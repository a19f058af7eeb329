-- What other crates may use of the proofs here.
pub use Rattle.scim_noninterference.proofs.ListLemmas.{alike_refl, alike_from, quiet_alike, keep_again}
pub use Rattle.scim_noninterference.proofs.NameLemmas.{taken_same}
pub use Rattle.scim_noninterference.proofs.RequestLemmas.{AreLike, AreAnswers, planned_same}
pub use Rattle.scim_noninterference.proofs.LawLemmas.{like_alike, alike_like}
