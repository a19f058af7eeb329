use Rattle.scim_wire.proofs.WireLemmas.{opens_reading, refused_head}
use Rattle.scim_wire.proofs.state_steps.open_message.Goals as goal

pub returns-in-Ok : goal.returns-in-Ok
returns-in-Ok c bytes opens = c.begin_body.ensures bytes (opens_reading bytes _ _ opens c.in-Ok.ensures)

pub returns-in-Err-Because : goal.returns-in-Err-Because
returns-in-Err-Because c bytes opens =
    rw (c.refused.ensures.state, c.refused.ensures.item, c.in-Err-Because.refusal-is)
    (refused_head bytes _ (opens_reading bytes _ _ opens (rw (c.in-Err-Because.field-0-is) at c.in-Err-Because.ensures)))
