use Rattle.std.proofs.Common.{[], ◌∷◌}
use Rattle.scim_wire.proofs.WireLemmas.{chunks_more, chunks_whole, chunks_refused}
use Rattle.scim_wire.proofs.states.ChunksPart.take.Goals as goal

pub returns-in-Ok-More : goal.returns-in-Ok-More
returns-in-Ok-More c bytes items stands =
    let led = rw (c.in-Ok-More.field-0-is) at (c.in-Ok-More.ensures stands.0.after stands.0.stands) in
    (chunks_more c.args.self c.in-Ok-More.chunks bytes (c.args.byte ∷ []) stands.0 led, stands.1)

pub returns-in-Ok-Whole : goal.returns-in-Ok-Whole
returns-in-Ok-Whole c bytes items stands =
    let led = rw (c.in-Ok-Whole.field-0-is) at (c.in-Ok-Whole.ensures stands.0.after stands.0.stands) in
    rw c.whole.ensures.item
    (c.args.self.head, chunks_whole c.args.self bytes c.in-Ok-Whole.body.items c.args.byte stands.0 led, stands.1, c.whole.ensures.state)

pub returns-in-Err-Because : goal.returns-in-Err-Because
returns-in-Err-Because c bytes items stands =
    let led = rw (c.in-Err-Because.field-0-is) at (c.in-Err-Because.ensures stands.0.after stands.0.stands) in
    rw (c.refused.ensures.state, c.refused.ensures.item, c.refusal_of.ensures, c.in-Err-Because.fault-is)
    (chunks_refused c.args.self bytes items c.args.byte c.in-Err-Because.fault stands.0 led stands.1)
