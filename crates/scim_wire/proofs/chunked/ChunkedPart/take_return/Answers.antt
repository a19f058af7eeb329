use Rattle.scim_wire.proofs.ChunkStepLemmas.{return_bad, data_return}
use Rattle.scim_wire.proofs.chunked.ChunkedPart.take_return.Goals as goal

pub returns-then-byte-ne13 : goal.returns-then-byte-ne13
returns-then-byte-ne13 c bytes in_data = return_bad bytes c.args.self.body.items c.args.byte in_data c.if-byte-ne13.true

pub returns : goal.returns
returns c bytes in_data = rw (c.if-byte-ne13.false) (data_return bytes c.args.self.body.items in_data)
