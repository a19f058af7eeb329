use Rattle.scim_wire.proofs.ChunkStepLemmas.{trailers_more, trailers_whole, trailers_bad}
use Rattle.scim_wire.proofs.chunked.ChunkedPart.take_in_trailers.Goals as goal

pub returns-in-More : goal.returns-in-More
returns-in-More c bytes in_trailers = trailers_more bytes _ c.args.part c.in-More.next c.args.byte in_trailers c.in-More.ensures.0 c.in-More.ensures.1

pub returns-in-Whole : goal.returns-in-Whole
returns-in-Whole c bytes in_trailers = trailers_whole bytes _ c.args.part c.args.byte in_trailers c.in-Whole.ensures

pub returns-in-Bad : goal.returns-in-Bad
returns-in-Bad c bytes in_trailers = trailers_bad bytes _ c.args.part c.args.byte in_trailers c.in-Bad.ensures
