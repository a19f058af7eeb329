use Rattle.std.proofs.Common.{arith}
use Rattle.scim_wire.proofs.ChunkLineLemmas.{goes_on, least_rest}
use Rattle.scim_wire.proofs.chunk_lines.LinePart.take.Goals as goal

pub returns-then-least-self : goal.returns-then-least-self
returns-then-least-self c size text rest =
    omega (arith, rest.1, least_rest c.in-Some.next size text ((c.in-Some.ensures.1 size text).0 rest.0), c.least.ensures, c.if-least-self.true)

pub returns-in_default-place : goal.returns-in_default-place
returns-in_default-place c = (
  λ size text. (
    λ rest. ((c.in-Some.ensures.1 size text).0 rest.0, omega (arith, rest.1)),
    λ rest. ((c.in-Some.ensures.1 size text).1 rest.0, omega (arith, rest.1, c.least.ensures, c.if-least-self.false)),
  ),
  goes_on _ c.in-Some.ensures.0 c.in_default-place.not-End (omega arith) (omega (arith, c.least.ensures, c.if-least-self.false)),
)
