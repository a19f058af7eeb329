-- What other crates may use of the proofs here.
pub use Rattle.scim_wire.proofs.MessageLemmas.{items_from_stands}
pub use Rattle.scim_wire.proofs.ChunkLawLemmas.{part_of_standing, one_body, one_fault, body_not_bad, body_not_part, bad_not_part}
