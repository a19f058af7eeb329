use Rattle.std.proofs.Common.{◌++◌, ◌∷◌, []}
use Rattle.scim_wire.proofs.ChunkStepLemmas.{line_more, line_whole, line_bad}
use Rattle.scim_wire.proofs.chunked.ChunkedPart.take_in_line.Goals as goal

pub returns-in-More : goal.returns-in-More
returns-in-More c bytes in_line = line_more bytes _ c.args.part c.in-More.next c.args.byte in_line c.in-More.ensures.0 c.in-More.ensures.1

pub returns-in-Whole : goal.returns-in-Whole
returns-in-Whole c bytes in_line =
    let found = line_whole bytes _ c.args.part c.args.byte c.in-Whole.size in_line c.in-Whole.ensures in
    c.after_line.ensures (bytes ++ c.args.byte ∷ []) found.0 found.1 found.2

pub returns-in-Bad : goal.returns-in-Bad
returns-in-Bad c bytes in_line = line_bad bytes _ c.args.part c.args.byte in_line c.in-Bad.ensures
