-- What other crates may use of the proofs here.
pub use Rattle.scim_path.proofs.TargetLemmas.{targets_are_named}
