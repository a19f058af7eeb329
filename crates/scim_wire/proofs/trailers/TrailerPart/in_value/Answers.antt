use Rattle.scim_wire.proofs.TrailerLemmas.{value_at_return, value_at_feed, value_at_other, value_more}
use Rattle.scim_wire.proofs.trailers.TrailerPart.in_value.Goals as goal

pub returns-then-byte-eq13 : goal.returns-then-byte-eq13
returns-then-byte-eq13 c text = rw (c.at.ensures, c.if-byte-eq13.true) (value_at_return c.args.self.headers text)

pub returns-then-byte-eq10 : goal.returns-then-byte-eq10
returns-then-byte-eq10 c text = rw (c.at-then-byte-eq10.ensures, c.if-byte-eq10.true) (value_at_feed c.args.self.headers text)

pub returns-then-is_header_value_token : goal.returns-then-is_header_value_token
returns-then-is_header_value_token c text = rw c.at-then-is_header_value_token.ensures (
  λ rest. (value_at_other c.args.self.headers c.args.byte text c.if-byte-eq13.false c.if-byte-eq10.false rest).1,
  λ rest. value_more c.args.self.headers c.args.byte text (cc) rest,
)

pub returns : goal.returns
returns c text rest = cc (
  (value_at_other c.args.self.headers c.args.byte text c.if-byte-eq13.false c.if-byte-eq10.false rest).0,
  c.is_header_value_token.ensures,
  c.if-is_header_value_token.false,
)
