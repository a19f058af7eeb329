-- What other crates may use of the proofs here.
pub use Rattle.scim_filter_texts.proofs.NeededLemmas.{any_kept, cell_by_row, either, own_passes}
