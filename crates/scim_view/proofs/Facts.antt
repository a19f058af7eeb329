-- What other crates may use of the proofs here.
pub use Rattle.scim_view.proofs.AttributeLemmas.{AreSingleOn, attributes_alike, none_shown, plain_attributes}
pub use Rattle.scim_view.proofs.GroupLemmas.{restricted-put_values, seen_values}
pub use Rattle.scim_view.proofs.IndexLemmas.{seen_more, and_those_append}
pub use Rattle.scim_view.proofs.LawLemmas.{narrowed}
pub use Rattle.scim_view.proofs.ListLemmas.{views_more}
pub use Rattle.scim_view.proofs.NarrowedLemmas.{narrowed_groups, narrowed_view}
pub use Rattle.scim_view.proofs.SeenRowsLemmas.{any_weaker, seen_in_value, seen_stands, some_passes}
pub use Rattle.scim_view.proofs.ShownPartLemmas.{unshown_groups}
pub use Rattle.scim_view.proofs.ViewLemmas.{same_visible}
pub use Rattle.scim_view.proofs.WritableLemmas.{passing, readable_leaf, none_denied, written_seen}
