-- What other crates may use of the proofs here.
pub use Rattle.scim_exchange.proofs.ExchangeLemmas.{exchanged_unserved}
