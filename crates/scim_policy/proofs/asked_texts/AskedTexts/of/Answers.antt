use Rattle.std.proofs.Common.{◌∙◌, sym, ap}
use Rattle.scim_cell.specs.Rows.{rows}
use Rattle.scim_policy.specs.code.Asked.{asked_among}
use Rattle.scim_policy.proofs.AskedLemmas.{same_kind, stored_tell}
use Rattle.scim_policy.proofs.asked_texts.AskedTexts.of.Goals as goal

pub returns : goal.returns
returns c = (
  sym c.kind.ensures ∙ same_kind c.kind.result c.args.kind (sym c.ne.ensures ∙ c.if-ne.false),
  stored_tell (record { leaves = c.args.leaves; texts = c.in_ok-texts.texts }) (rows c.args.resource.now)
      (c.in_ok-texts.ensures ∙ ap (asked_among c.args.leaves.now) (c.rows.ensures.rows ∙ ap rows c.part.ensures.value)),
)
