-- What other crates may use of the proofs here.
pub use Rattle.scim_shelf_watch.proofs.KeptLemmas.{lower_kept, watcher_kept}
