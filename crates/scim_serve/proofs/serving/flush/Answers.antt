use Rattle.std.proofs.Common.{rules, ◌≡◌, ◌∙◌}
use Rattle.std.specs.Prelude.{Some}
use Rattle.scim_serve.specs.code.Rests.{finished}
use Rattle.scim_serve.specs.code.Waiting.{waiting_for}
use Rattle.scim_serve.proofs.FitLemmas.{fits_whole}
use Rattle.scim_serve.proofs.serving.flush.Goals as goal

pub returns-then-is_done-clause-finished : goal.returns-then-is_done-clause-finished
returns-then-is_done-clause-finished g c = λ known due fits before after.
    let n = c.args.connection in
    let none : waiting_for c.offer.new.waiting n ≡ Some finished = search rules in
    c.close.ensures.written known n ∙ fits_whole (waiting_for c.offer.new.waiting n) (g.P.Peers.written c.offer.new.peers n) due none (c.offer.ensures.kept known n due fits)

pub returns-else-is_done-clause-unfinished : goal.returns-else-is_done-clause-unfinished
returns-else-is_done-clause-unfinished g c = search rules
