-- What other crates may use of the proofs here.
pub use Rattle.scim_value.proofs.AttributeLemmas.{values_all, values_own}
pub use Rattle.scim_value.proofs.GetLemmas.{get_cell}
pub use Rattle.scim_value.proofs.KeyLemmas.{In, attributes_ascend}
pub use Rattle.scim_value.proofs.ListingLemmas.{cells_are_listed, fields_in}
pub use Rattle.scim_value.proofs.OfLemmas.{sound_part}
pub use Rattle.scim_value.proofs.OrderLemmas.{unit_same, unit_total}
pub use Rattle.scim_value.proofs.PartLemmas.{entries-from_true}
pub use Rattle.scim_value.proofs.PositionLemmas.{one_value}
pub use Rattle.scim_value.proofs.RowLemmas.{same_part, sorted_entries}
pub use Rattle.scim_value.proofs.SoundLemmas.{across, filter_filter, not_flip, pairs_append, precedes_less, put_sound, restricted_sound}
pub use Rattle.scim_value.proofs.TieLemmas.{entries_content, part_content, rows_content}
