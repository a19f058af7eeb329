use Rattle.std.proofs.Common.{◌≡◌, ◌∙◌, sym, subst}
use Rattle.std.proofs.lemmas.Result.{IfOk-weaker}
use Rattle.scim_schema.specs.declared.Kind.{Kind}
use Rattle.scim_cell.specs.Content.{Content}
use Rattle.scim_cell.specs.Rows.{Row}
use Rattle.scim_policy.specs.PatternTable.{last_decision, rules_in}
use Rattle.scim_value.specs.Changes.{restricted_part}
use Rattle.scim_view.specs.View.{decision_in}
use Rattle.scim_view.specs.code.ShownCells.{seen_and_shown, shown_except, AreUnshown}
use Rattle.scim_view.proofs.ShownPartLemmas.{except_unshown, single_shown}
use Rattle.scim_view.proofs.shown_parts.shown_by.Goals as goal

pub returns-then-is_plain : goal.returns-then-is_plain
returns-then-is_plain c =
    let d = last_decision c.args.patterns.now in
    let rules = rules_in c.args.patterns.now in
    let own = c.args.resource.now in
    let w = c.args.wanted.now in
    let unshown = c.as_slice-unshown.result.now in
    let none = subst (λ (k : Kind). AreUnshown w k unshown) c.kind-kind.ensures (subst (AreUnshown w c.kind-kind.result) (sym c.as_slice-unshown.ensures.value) c.in_ok-attributes.ensures) in
    IfOk-weaker c.restrict.result (λ (p : Content). p ≡ restricted_part (shown_except unshown (λ (r : Row). d) own.kind w) own)
    (λ (p : Content). p ≡ restricted_part (seen_and_shown (decision_in rules) own.kind w) own)
    (λ p e. e ∙ except_unshown unshown (λ (r : Row). d) w own c.part-part.ensures.valid.part none ∙ single_shown d rules w own (c.is_plain.ensures c.if-is_plain.true))
    (rw (c.part-part.ensures.value, c.kind-kind.ensures) at c.restrict.ensures.whole)

pub returns : goal.returns
returns c =
    let rules = rules_in c.args.patterns.now in
    let own = c.args.resource.now in
    let w = c.args.wanted.now in
    let unshown = c.as_slice-unshown.result.now in
    let none = subst (λ (k : Kind). AreUnshown w k unshown) c.kind-kind.ensures (subst (AreUnshown w c.kind-kind.result) (sym c.as_slice-unshown.ensures.value) c.in_ok-attributes.ensures) in
    IfOk-weaker c.restrict_by.result (λ (p : Content). p ≡ restricted_part (shown_except unshown (decision_in rules) own.kind w) own)
    (λ (p : Content). p ≡ restricted_part (seen_and_shown (decision_in rules) own.kind w) own)
    (λ p e. e ∙ except_unshown unshown (decision_in rules) w own c.part-part.ensures.valid.part none)
    (rw (c.part-part.ensures.value, c.kind-kind.ensures) at c.restrict_by.ensures.whole)
