use Rattle.scim_wire.proofs.TrailerLemmas.{name_at_colon, name_at_other, name_more}
use Rattle.scim_wire.proofs.trailers.TrailerPart.in_name.Goals as goal

pub returns-then-byte-eq58 : goal.returns-then-byte-eq58
returns-then-byte-eq58 c text = rw (c.at.ensures, c.if-byte-eq58.true) (name_at_colon c.args.self.headers text)

pub returns-then-is_header_name_token : goal.returns-then-is_header_name_token
returns-then-is_header_name_token c text = rw c.at-then-is_header_name_token.ensures (
  λ rest. (name_at_other c.args.self.headers c.args.byte text c.if-byte-eq58.false rest).1,
  λ rest. name_more c.args.self.headers c.args.byte text (cc) rest,
)

pub returns : goal.returns
returns c text rest = cc ((name_at_other c.args.self.headers c.args.byte text c.if-byte-eq58.false rest).0, c.is_header_name_token.ensures, c.if-is_header_name_token.false)
