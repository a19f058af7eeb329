use Rattle.std.proofs.Common.{arith}
use Rattle.scim_wire.proofs.TrailerLemmas.{lines_at_return, lines_at_feed, lines_at_other, lines_name}
use Rattle.scim_wire.proofs.trailers.TrailerPart.at_line_start.Goals as goal
use Rattle.scim_wire.proofs.trailers.TrailerPart.at_line_start.Goals.{then-self-eq0-via-then-self-eq0, then-self-eq0-via-else-self-eq0+then-not-is_header_name_token}

pub returns-then-byte-eq13 : goal.returns-then-byte-eq13
returns-then-byte-eq13 c text = rw (c.at.ensures, c.if-byte-eq13.true) (lines_at_return c.args.self.headers text)

pub returns-then-byte-eq10 : goal.returns-then-byte-eq10
returns-then-byte-eq10 c text = rw (c.at-then-byte-eq10.ensures, c.if-byte-eq10.true) (lines_at_feed c.args.self.headers text)

pub returns-then-self-eq0 : goal.returns-then-self-eq0
returns-then-self-eq0 c text rest =
    let found = lines_at_other c.args.self.headers c.args.byte text c.if-byte-eq13.false c.if-byte-eq10.false rest in
    elim c.then-self-eq0.branch [
      | then-self-eq0-via-then-self-eq0 w ↦ omega (arith, w.if-self-eq0.true, found.1)
      | then-self-eq0-via-else-self-eq0+then-not-is_header_name_token w ↦ cc (found.0, w.if-not-is_header_name_token.true, w.is_header_name_token.ensures)
    ]

pub returns : goal.returns
returns c text = (
  λ rest. (lines_at_other c.args.self.headers c.args.byte text c.if-byte-eq13.false c.if-byte-eq10.false rest).2,
  λ rest. lines_name c.args.self.headers c.args.byte text (cc) (omega (arith, c.if-self-eq0.false)) rest,
)
