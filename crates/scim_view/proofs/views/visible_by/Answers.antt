use Rattle.std.proofs.Common.{◌≡◌, ◌∙◌}
use Rattle.std.proofs.lemmas.Result.{IfOk-weaker}
use Rattle.scim_cell.specs.Content.{Content}
use Rattle.scim_cell.specs.Rows.{Row}
use Rattle.scim_policy.specs.PatternTable.{last_decision, rules_in}
use Rattle.scim_view.specs.View as spec
use Rattle.scim_view.specs.View.{decision_in}
use Rattle.scim_view.proofs.ViewLemmas.{single_visible}
use Rattle.scim_view.proofs.views.visible_by.Goals as goal

pub returns-then-is_plain : goal.returns-then-is_plain
unfolding spec.visible_by
returns-then-is_plain c =
    let d = last_decision c.args.patterns.now in
    let rules = rules_in c.args.patterns.now in
    let own = c.args.resource.now in
    IfOk-weaker c.restrict.result (λ (p : Content). p ≡ spec.visible_by (λ (r : Row). d) own) (λ (p : Content). p ≡ spec.visible_by (decision_in rules) own)
    (λ p e. e ∙ single_visible d rules own (c.is_plain.ensures c.if-is_plain.true)) (rw (c.part.ensures.value, c.kind-kind.ensures) at c.restrict.ensures.whole)

pub returns : goal.returns
unfolding spec.visible_by
returns c = rw (c.part-2.ensures.value, c.kind-kind.ensures) at c.restrict_by.ensures.whole
