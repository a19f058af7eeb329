use Rattle.std.proofs.Common.{◌≡◌, ◌∙◌, sym, ap, subst, ℕ, ◌+◌, List, map, arith}
use Rattle.scim_schema.specs.declared.Leaf.{Leaf}
use Rattle.scim_cell.specs.Content.{Content}
use Rattle.scim_policy.specs.Rules.{Rule}
use Rattle.scim_policy.specs.Patterns.{pattern_rules}
use Rattle.scim_policy.specs.Selected.{rules_by}
use Rattle.scim_policy.specs.code.Inside.{reading_rule, AreAbove}
use Rattle.scim_policy.proofs.AskedLemmas.{known_too}
use Rattle.scim_policy.proofs.ReadingRuleLemmas.{all_selected, selected_above, selected_give, selected_next, selected_skip}
use Rattle.scim_policy.proofs.rules.Policy.reading_rules.Goals as goal
use Rattle.scim_policy.proofs.rules.Policy.reading_rules.Goals.{then-is_about+in_ok-needed+in_ok-add_leaves+in_ok-push, else-is_about}

pub invariant_of-result : goal.invariant_of-result
invariant_of-result c =
    let client = c.args.client.now in
    let rules = c.listed-rule-items.result.now in
    record {
      ascending =
          subst (AreAbove 0) (sym (all_selected client c.args.kind rules c.loop-rule.rule-index c.loop-rule.rules.items c.loop-rule-test.false c.loop-rule.invariant.selected))
          (selected_above client c.args.kind 0 1 rules (omega arith));
      needs = c.loop-rule.invariant.needs;
    }

pub loop-rule-preserved : goal.loop-rule-preserved
loop-rule-preserved c =
    let client = c.args.client.now in
    let rules = c.listed-rule-items.result.now in
    let i = c.loop-rule.rule-index in
    let before = c.loop-rule.invariant in
    let next : ℕ → ℕ = λ n. n + 1 in
    elim c.if-is_about.branch [
      | then-is_about+in_ok-needed+in_ok-add_leaves+in_ok-push w ↦ (
          rw w.rules-is
          record {
            numbered = ap next before.numbered;
            selected =
                selected_next client c.args.kind rules i c.loop-rule.rules.items c.loop-rule-test.true _ w.push.new.values.items
                c.rule-item.is (ap next before.numbered) (sym c.is_about.ensures ∙ w.if-is_about.true) w.in_ok-push.ensures.items before.selected;
            needs = known_too c.args.kind c.loop-rule.rules.items w.push.new.values.items _ w.in_ok-push.ensures.items before.needs w.in_ok-needed.ensures;
          }
          )
      | else-is_about w ↦ (
          rw w.rules-is
          record {
            numbered = ap next before.numbered;
            selected = selected_skip client c.args.kind rules i c.loop-rule.rules.items c.loop-rule-test.true c.rule-item.result c.rule-item.is (sym c.is_about.ensures ∙ w.if-is_about.false) before.selected;
            needs = before.needs;
          }
          )
    ]

pub returns : goal.returns
returns c =
    let client = c.args.client.now in
    let rules = c.listed-rule-items.result.now in
    let selected = c.loop-rule.rules.items in
    subst (λ (rs : List Rule). (r : Content) → r.kind ≡ c.args.kind → (l : Leaf) → rules_by (map reading_rule selected) r l ≡ pattern_rules rs client r l) c.listed-rule-items.ensures.rules
    (selected_give client c.args.kind rules (map reading_rule selected)
    (all_selected client c.args.kind rules c.loop-rule.rule-index selected c.loop-rule-test.false c.loop-rule.invariant.selected))
