use Rattle.std.proofs.Common.{◌+◌}
use Rattle.std.proofs.KnownBytes.{Appends-kept}
use Rattle.scim_wire.proofs.WritingLemmas.{written_front, written_more}
use Rattle.scim_wire.proofs.stream_writing.write_text.Goals as goal
use Rattle.scim_wire.proofs.stream_writing.write_text.Goals.{in-Ok, in-Err}

pub returns-in-Ok-eq0-clause-front : goal.returns-in-Ok-eq0-clause-front
returns-in-Ok-eq0-clause-front g c =
    let took = rw c.in-Ok-eq0.is at c.write.ensures in
    let more = written_more _ _ _ _ c.loop.written c.in-Ok-eq0.field-0 c.loop.invariant took.bound took.bytes in
    written_front _ _ _ _ (c.loop.written + c.in-Ok-eq0.field-0) c.as_bytes-bytes.ensures.value more.1

pub returns-in-Err-2-clause-front : goal.returns-in-Err-2-clause-front
returns-in-Err-2-clause-front g c =
    written_front _ _ _ _ c.loop.written c.as_bytes-bytes.ensures.value (Appends-kept _ _ _ _ c.loop.invariant.1 c.in-Err.ensures.bytes)

pub loop-preserved : goal.loop-preserved
loop-preserved g c = elim c.match-write.branch [
  | in-Ok w ↦ rw w.written-is (written_more _ _ _ _ c.loop.written w.in-Ok.count c.loop.invariant w.in-Ok.ensures.bound w.in-Ok.ensures.bytes)
  | in-Err w ↦ rw w.written-is (c.loop.invariant.0, Appends-kept _ _ _ _ c.loop.invariant.1 w.in-Err.ensures.bytes)
]

pub returns-clause-front : goal.returns-clause-front
returns-clause-front g c = written_front _ _ _ _ c.loop.written c.as_bytes-bytes.ensures.value c.loop.invariant.1
