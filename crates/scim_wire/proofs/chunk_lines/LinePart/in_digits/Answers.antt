use Rattle.std.proofs.Common.{◌≡◌, ◌<◌, ◌^◌, true, arith}
use Rattle.std.specs.Char.{is_ascii_hexdigit}
use Rattle.scim_wire.proofs.ChunkLineLemmas.{digits_at_digit, digits_at_other, leads_same}
use Rattle.scim_wire.specs.code.ChunkLines.{IsRestOfPad, IsRestOfDigits, IsRestOfSize}
use Rattle.scim_wire.proofs.chunk_lines.LinePart.in_digits.Goals as goal

pub returns-then-is_ascii_hexdigit : goal.returns-then-is_ascii_hexdigit
returns-then-is_ascii_hexdigit c =
    let digit : is_ascii_hexdigit c.args.byte ≡ true = cc (c.is_ascii_hexdigit.ensures.value, c.if-is_ascii_hexdigit.true) in
    leads_same (IsRestOfSize c.args.self.digits c.args.self.size) (IsRestOfDigits c.args.self.digits c.args.self.size) c.args.byte c.in_size.result
    (λ size text. digits_at_digit c.args.self.digits c.args.self.size size c.args.byte text digit) c.in_size.ensures

pub returns : goal.returns
returns c =
    let fits : c.args.self.size < 2 ^ 64 = omega arith in
    leads_same (λ size text. IsRestOfPad text × (size ≡ c.args.self.size)) (IsRestOfDigits c.args.self.digits c.args.self.size) c.args.byte c.after_size.result
    (λ size text. digits_at_other c.args.self.digits c.args.self.size size c.args.byte text fits
    (λ digit. cc (digit, c.is_ascii_hexdigit.ensures.value, c.if-is_ascii_hexdigit.false))) c.after_size.ensures
