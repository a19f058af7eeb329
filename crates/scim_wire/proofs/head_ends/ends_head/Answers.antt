use Rattle.scim_wire.proofs.PartLemmas.{ends_lf, ends_crlf, ends_by_tests}
use Rattle.scim_wire.proofs.head_ends.ends_head.Goals as goal

pub returns-then-ends_with : goal.returns-then-ends_with
returns-then-ends_with c = ((ends_lf c.args.bytes.now _ c.ends_with.ensures.value).0, λ _. c.if-ends_with.true)

pub returns-else-ends_with : goal.returns-else-ends_with
returns-else-ends_with c = (
  (ends_crlf c.args.bytes.now _ c.ends_with-else-ends_with.ensures.value).0,
  ends_by_tests c.args.bytes.now _ _ c.ends_with.ensures.value c.ends_with-else-ends_with.ensures.value c.if-ends_with.false,
)
