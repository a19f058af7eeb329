-- What other crates may use of the proofs here.
pub use Rattle.scim_text.proofs.Printed.{printed_is_read}
pub use Rattle.scim_text.proofs.FailureLemmas.{IfBecause-weaker, OnFault-weaker}
