-- What other crates may use of the proofs here.
pub use Rattle.scim_filter_grammar.proofs.IntegerLemmas.{IsNumber, integer_none, integer_some}
pub use Rattle.scim_filter_grammar.proofs.WrittenPathLemmas.{whole_takes, not_written}
