use Rattle.std.proofs.Common.{◌∷◌, [], refl}
use Rattle.scim_wire.proofs.ChunkStepLemmas.{data_more}
use Rattle.scim_wire.proofs.chunked.ChunkedPart.take_in_data.Goals as goal

pub returns : goal.returns
returns c bytes in_data = rw (c.in_ok-push.ensures.items) (data_more bytes c.args.self.body.items c.args.left 1 (c.args.byte ∷ []) refl c.requires in_data)
