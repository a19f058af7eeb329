-- What other crates may use of the proofs here.
pub use Rattle.scim_shelf.proofs.ChangeLemmas.{changed_place, found_own, groups_without, is_other, named_beside}
pub use Rattle.scim_shelf.proofs.FreshLemmas.{found_any, free_place, unused_own, used_by_kind}
pub use Rattle.scim_shelf.proofs.StoreLemmas.{All-keep, All-without, keep_keyed, without_keyed, IsStore-keep, IsStore-without, pairs_head, pairs_tail, keyed_nil, apart_back, keyed_apart, keyed_tail, keyed_cons, ids_differ, All-both, keyed_above}
pub use Rattle.scim_shelf.proofs.LeftLemmas.{last_kept}
pub use Rattle.scim_shelf.proofs.PlaceLemmas.{by_order, AreAbove, reversed}
pub use Rattle.scim_shelf.proofs.NameLemmas.{by_bool, is_same_name-Decides, is_same_name-flips, found_unnamed, found_by_id, found_at}
pub use Rattle.scim_shelf.proofs.ValueLemmas.{value_more, or_cond, or_false, left_beyond}
pub use Rattle.scim_shelf.proofs.UnderLemmas.{exact_values}
pub use Rattle.scim_shelf.proofs.PickLemmas.{filter_swap, picked_all}
pub use Rattle.scim_shelf.proofs.CountLemmas.{device_raises, counts_grow}
pub use Rattle.scim_shelf.proofs.CollectLemmas.{KeepsAmong, kept_all}
pub use Rattle.scim_shelf.proofs.CommitLemmas.{after_more, in_turn_more, in_turn_and, rows_after}
