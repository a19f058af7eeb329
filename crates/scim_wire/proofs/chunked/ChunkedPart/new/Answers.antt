use Rattle.std.proofs.Common.{[]}
use Rattle.scim_wire.proofs.ChunkStepLemmas.{chunks_start, line_begins}
use Rattle.scim_wire.proofs.chunked.ChunkedPart.new.Goals as goal

pub returns : goal.returns
returns c = rw (c.new-2.ensures.items) (line_begins [] [] _ chunks_start c.new.ensures.rest c.new.ensures.goes_on)
