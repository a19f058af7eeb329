-- What other crates may use of the proofs here.
pub use Rattle.scim_hub.proofs.RunLemmas.{runs_more}
