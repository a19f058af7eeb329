use Rattle.std.proofs.Common.{arith}
use Rattle.scim_wire.proofs.TrailerLemmas.{goes_on}
use Rattle.scim_wire.proofs.trailers.TrailerPart.take.Goals as goal

pub returns-in_default-place : goal.returns-in_default-place
returns-in_default-place c = (
  λ text. (
    λ rest. ((c.in-Some.ensures text).0 rest.0, omega (arith, rest.1)),
    λ rest. ((c.in-Some.ensures text).1 rest.0, omega (arith, rest.1, c.least.ensures, c.if-least-self.false)),
  ),
  goes_on _ c.in_default-place.not-End (omega (arith, c.least.ensures, c.if-least-self.false)),
)
