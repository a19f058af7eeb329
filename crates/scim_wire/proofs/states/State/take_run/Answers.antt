use Rattle.std.proofs.Common.{length, take}
use Rattle.std.proofs.lemmas.Result.{IfOk-weaker}
use Rattle.scim_wire.proofs.WireLemmas.{refused_more}
use Rattle.scim_wire.proofs.states.State.take_run.Goals as goal

pub returns-in-Opening-clause-stands : goal.returns-in-Opening-clause-stands
returns-in-Opening-clause-stands c bytes items stands =
    let before = rw c.in-Opening.is at stands in
    IfOk-weaker c.take_run.result _ _ (λ n holds. (holds, before.1)) (c.take_run.ensures.holds bytes before.0)

pub returns-in-Shut-clause-stands : goal.returns-in-Shut-clause-stands
returns-in-Shut-clause-stands c bytes items stands =
    rw c.in-Shut.is (refused_more bytes (take (length c.args.piece.now) c.args.piece.now) items (rw c.in-Shut.is at stands))
