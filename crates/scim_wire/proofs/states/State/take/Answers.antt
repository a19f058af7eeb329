use Rattle.std.proofs.Common.{[], ◌∷◌}
use Rattle.scim_wire.proofs.WireLemmas.{refused_more}
use Rattle.scim_wire.proofs.states.State.take.Goals as goal

pub returns-in-Shut-clause-steps : goal.returns-in-Shut-clause-steps
returns-in-Shut-clause-steps c bytes items stands = refused_more bytes (c.args.byte ∷ []) items (rw c.in-Shut.is at stands)
