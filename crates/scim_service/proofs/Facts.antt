-- What other crates may use of the proofs here.
pub use Rattle.scim_service.proofs.KeepLemmas.{Plan, found_holds, next_is_store}
