use Rattle.std.proofs.Common.{◌≤◌, length, take, arith}
use Rattle.std.proofs.lemmas.List.{length-take-le}
use Rattle.scim_wire.proofs.ChunkStepLemmas.{data_more}
use Rattle.scim_wire.proofs.chunked.ChunkedPart.take_run.Goals as goal

pub returns-clause-stands : goal.returns-clause-stands
returns-clause-stands c bytes stands =
    let count = c.min-count.result in
    let piece = c.args.piece.now in
    let few : count ≤ length piece = omega (arith, c.min-count.ensures) in
    let fits : count ≤ c.in-Data.left = omega (arith, c.min-count.ensures) in
    rw (c.in_ok-extend_from_slice.ensures.items)
    (data_more bytes _ c.in-Data.left count (take count piece) (length-take-le count piece few) fits (rw c.in-Data.is at stands))
