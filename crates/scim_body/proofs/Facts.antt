-- What other crates may use of the proofs here.
pub use Rattle.scim_body.proofs.BodyLemmas.{absent_items}
pub use Rattle.scim_body.proofs.CollectedLemmas.{chained, collected_all, collected_flat_map, is_rising, mapped, none_passes, not_refused, one_pair, unless, where_given}
pub use Rattle.scim_body.proofs.LeafTables.{contains_joined, contains_made, fits_complex, fits_simple, has_simple, has_sub_attribute, many_unit, simple_no_moment, sub_attribute_kept, sub_attribute_leaf, sub_attribute_no_moment, sub_attributes_own, table_fits, IsSubAttribute}
pub use Rattle.scim_body.proofs.GivenFields.{atom_given, fields_given, with_one, AreFields, IsAtMostOne, IsGivenAtom, IsOf, Rises}
pub use Rattle.scim_body.proofs.GivenRows.{single_row, value_made, values_listed, IsGivenRow, IsSingle, IsValueOf, row_with}
pub use Rattle.scim_body.proofs.DraftLemmas.{filled}
