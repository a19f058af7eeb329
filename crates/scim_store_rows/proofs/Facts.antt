-- What other crates may use of the proofs here.
pub use Rattle.scim_store_rows.proofs.TiedLemmas.{tied, ids_apart}
pub use Rattle.scim_store_rows.proofs.NameLemmas.{simple_names, leaf_texts}
pub use Rattle.scim_store_rows.proofs.PlaceLemmas.{own, lower, upper, others, split, found, own_id, other_own, own_apart, others_all}
pub use Rattle.scim_store_rows.proofs.OwnerLemmas.{contents, none_left}
pub use Rattle.scim_store_rows.proofs.GroupLemmas.{rows_rise as resources_rise}
pub use Rattle.scim_store_rows.proofs.SpanLemmas.{rows_rise, drop-audit_rows, take-audit_rows}
pub use Rattle.scim_store_rows.proofs.ReadLemmas.{length-audit_rows}
pub use Rattle.scim_store_rows.proofs.WalkLemmas.{took_nothing}
