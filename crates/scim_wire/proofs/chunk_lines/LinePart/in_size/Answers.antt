use Rattle.std.proofs.Common.{◌≡◌, false, sym, arith}
use Rattle.std.proofs.lemmas.Bool.{both_ways}
use Rattle.std.specs.Char.{is_ascii_hexdigit}
use Rattle.scim_wire.proofs.ChunkLineLemmas.{size_first, size_at_digit}
use Rattle.scim_wire.proofs.chunk_lines.LinePart.in_size.Goals as goal

pub returns-in_default : goal.returns-in_default
returns-in_default c size text rest =
    let other : is_ascii_hexdigit c.args.byte ≡ false = sym (rw c.in_default.is at c.parse_hex_digit.ensures.found) in
    both_ways (is_ascii_hexdigit c.args.byte) other (size_first c.args.self.digits c.args.self.size size c.args.byte text rest).0

pub returns-then-self : goal.returns-then-self
returns-then-self c size text rest =
    let fits = (size_first c.args.self.digits c.args.self.size size c.args.byte text rest).2 in
    omega (arith, fits, c.if-self.true)

pub returns : goal.returns
returns c = (
  λ e. cc,
  λ size text. rw c.in-Some.ensures.value.0
      (size_at_digit c.args.self.digits c.args.self.size size c.args.byte text (sym c.in-Some.ensures.found) (omega (arith, c.if-self-eq0.false))),
)
