-- The state of reading a chunked body, and the results of its next byte (RFC 9112 section 7.1).
use Rattle.std.specs.Prelude.{ℕ, List, Result, Ok, Err}
use Rattle.scim_wire.specs.declared.chunk_faults.BadChunks.{BadChunks}
use Rattle.scim_wire.specs.declared.chunked.ChunkedPart.{ChunkedPart}
use Rattle.scim_wire.specs.declared.chunked.ChunkStep.{ChunkStep}
use Rattle.scim_wire.specs.declared.chunked.ChunkStep.TheVariants.{More, Whole}
use Rattle.scim_wire.specs.Chunked.{IsChunked, IsBadChunked}
use Rattle.scim_wire.specs.code.ChunkSteps.{StandsAt}

-- the part has the state that results from reading these bytes, which don't finish the body
abbrev pub StandsFor : ChunkedPart → List ℕ → Type 0
StandsFor part bytes = StandsAt part.place part.body.items bytes

-- the result of reading these bytes: the state of an unfinished body, the content of a finished body, or the
-- fault if the last byte makes the body invalid
abbrev pub Leads : List ℕ → Result ChunkStep BadChunks → Type 0
Leads bytes (Ok (More part)) = StandsFor part bytes
Leads bytes (Ok (Whole body)) = IsChunked bytes body.items
Leads bytes (Err fault) = IsBadChunked bytes fault
