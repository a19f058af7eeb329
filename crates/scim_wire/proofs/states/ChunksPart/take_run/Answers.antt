use Rattle.std.proofs.Common.{take}
use Rattle.std.proofs.lemmas.Result.{IfOk-weaker}
use Rattle.scim_wire.proofs.WireLemmas.{chunks_more}
use Rattle.scim_wire.proofs.states.ChunksPart.take_run.Goals as goal

pub returns-clause-stands : goal.returns-clause-stands
returns-clause-stands c bytes items stands =
    IfOk-weaker c.take_run.result _ _ (λ n led. (chunks_more c.args.self.now c.take_run.new.self bytes (take n c.args.piece.now) stands.0 led, stands.1))
    (c.take_run.ensures.stands stands.0.after stands.0.stands)
