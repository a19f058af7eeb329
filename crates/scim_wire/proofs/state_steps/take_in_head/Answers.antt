use Rattle.std.proofs.Common.{◌++◌, ◌∷◌, []}
use Rattle.scim_wire.proofs.WireLemmas.{refused_overlong}
use Rattle.scim_wire.proofs.state_steps.take_in_head.Goals as goal

pub returns-in-More : goal.returns-in-More
returns-in-More c bytes items stands = (rw c.in-More.is at (c.in_ok-part.ensures bytes stands.0), stands.1)

pub returns-in-Ended : goal.returns-in-Ended
returns-in-Ended c bytes items stands =
    rw stands.1 (c.open_message.ensures (bytes ++ c.args.byte ∷ []) (rw c.as_slice.ensures.value (rw c.in-Ended.is at (c.in_ok-part.ensures bytes stands.0))))

pub returns-in-Overlong : goal.returns-in-Overlong
returns-in-Overlong c bytes items stands =
    rw (c.refused.ensures.state, c.refused.ensures.item, stands.1)
    (refused_overlong (bytes ++ c.args.byte ∷ []) (rw c.in-Overlong.is at (c.in_ok-part.ensures bytes stands.0)))
