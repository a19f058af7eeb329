use Rattle.std.proofs.Common.{◌++◌, ◌∷◌, []}
use Rattle.scim_wire.proofs.ChunkStepLemmas.{feed_bad, data_feed, line_begins}
use Rattle.scim_wire.proofs.chunked.ChunkedPart.take_feed.Goals as goal

pub returns-then-byte-ne10 : goal.returns-then-byte-ne10
returns-then-byte-ne10 c bytes in_data = feed_bad bytes c.args.self.body.items c.args.byte in_data c.if-byte-ne10.true

pub returns : goal.returns
returns c bytes in_data =
    rw c.if-byte-ne10.false (line_begins (bytes ++ 10 ∷ []) _ _ (data_feed bytes c.args.self.body.items in_data) c.new.ensures.rest c.new.ensures.goes_on)
