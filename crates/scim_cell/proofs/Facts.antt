-- What other crates may use of the proofs here.
pub use Rattle.scim_cell.proofs.FieldLemmas.{PartsRise, sound-AreRising}
pub use Rattle.scim_cell.proofs.IdLemmas.{IsIdText-id_text, id_text-injective}
pub use Rattle.scim_cell.proofs.IdOrderLemmas.{slice_cmp-id_text}
pub use Rattle.scim_cell.proofs.RestrictedLemmas.{AreAlike, restricted_alike, restricted_further}
