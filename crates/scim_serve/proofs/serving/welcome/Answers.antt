use Rattle.std.proofs.Common.{rules}
use Rattle.scim_serve.proofs.ClosingLemmas.{closing_entered}
use Rattle.scim_serve.proofs.LevelLemmas.{level_entered}
use Rattle.scim_serve.proofs.serving.welcome.Goals as goal

pub returns-else-is_err-clause-level : goal.returns-else-is_err-clause-level
returns-else-is_err-clause-level g c = λ known due level.
    level_entered (g.P.Peers.written c.args.peers.now) c.args.waiting.now c.note.new.self c.enter.new.self due c.args.connection (search rules) c.note.ensures.same (search rules) (search rules) level

pub returns-else-is_err-clause-closing : goal.returns-else-is_err-clause-closing
returns-else-is_err-clause-closing g c = λ shut closing.
    closing_entered c.args.waiting.now c.note.new.self c.enter.new.self shut c.args.connection (search rules) c.note.ensures.same (search rules) (search rules) closing
