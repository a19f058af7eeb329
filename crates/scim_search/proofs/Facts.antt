-- What other crates may use of the proofs here.
pub use Rattle.scim_search.proofs.ApartLemmas.{none_at, not_both}
pub use Rattle.scim_shelf.proofs.Facts.{filter_swap}
pub use Rattle.scim_search.proofs.ListLemmas.{first_and_rest, not_false, rest_whole}
pub use Rattle.scim_search.proofs.StoreViews.{none_of_group, made_map, made_views}
