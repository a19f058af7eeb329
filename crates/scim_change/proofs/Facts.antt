-- What other crates may use of the proofs here.
pub use Rattle.scim_change.proofs.AtomLemmas.{rows_modified}
pub use Rattle.scim_change.proofs.CreateLemmas.{filled, kept_field, last_modified_kept, one_kept}
pub use Rattle.scim_change.proofs.LawLemmas.{replacing_rests_on_its_units, secret_unstamped}
pub use Rattle.scim_change.proofs.OutcomeLemmas.{IsSound, created_sound, replaced_sound}
pub use Rattle.scim_change.proofs.PutLemmas.{put_all, values_fit, values_put, values_stay, values_units, within}
pub use Rattle.scim_change.proofs.ReplaceLemmas.{fixed_id, modified_fits, no_stamp, other_meta, stamp, stamp_apart, stamp_own, stamps, stamps_own}
