use Rattle.scim_wire.proofs.ChunkLawLemmas.{part_of_standing, one_body, one_fault, body_not_bad, body_not_part, bad_not_part}
use Rattle.scim_wire.proofs.chunk_laws.chunked_bodies_are_read_in_one_way.Goals as goal

pub returns : goal.returns
returns c = record {
  part = part_of_standing;
  one = one_body;
  one_fault = one_fault;
  not_bad = body_not_bad;
  not_part = body_not_part;
  bad_not_part = bad_not_part;
}
