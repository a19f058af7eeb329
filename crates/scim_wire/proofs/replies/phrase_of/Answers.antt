use Rattle.std.proofs.Common.{refl}
use Rattle.scim_wire.proofs.ReplyLemmas.{no_phrase}
use Rattle.scim_wire.proofs.replies.phrase_of.Goals as goal

pub returns-in-Err : goal.returns-in-Err
returns-in-Err c = rw (no_phrase c.args.status c.in-Err.ensures) refl
