use Rattle.std.proofs.Common.{append_assoc}
use Rattle.scim_wire.proofs.replies.status_line.Goals as goal

pub returns : goal.returns
returns c =
    rw (c.in_ok-text.ensures.ok, c.phrase_of-phrase.ensures) (simp append_assoc)
