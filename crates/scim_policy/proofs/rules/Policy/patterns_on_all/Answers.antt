use Rattle.std.proofs.Common.{◌≡◌, ◌∙◌, refl, sym, ap, subst, true, ℕ, ◌+◌, List, length}
use Rattle.std.specs.Prelude.{◌==◌}
use Rattle.scim_schema.specs.declared.Leaf.{Leaf}
use Rattle.scim_cell.specs.Content.{Content}
use Rattle.scim_policy.specs.Rules.{Rule, Target}
use Rattle.scim_policy.specs.Patterns.{pattern_rules}
use Rattle.scim_policy.specs.PatternTable.{rules_in}
use Rattle.scim_policy.proofs.PatternLemmas.{AllWalked, all_rule, all_past, policy_start, policy_end, policy_whole}
use Rattle.scim_policy.proofs.rules.Policy.patterns_on_all.Goals as goal
use Rattle.scim_policy.proofs.rules.Policy.patterns_on_all.Goals.{then-is_about+else-not-is_empty+in_ok-add_rule+else-is_complete, else-is_about}

pub loop-rule-init : goal.loop-rule-init
loop-rule-init c =
    record { numbered = refl; walked = λ r same. policy_start c.args.client.now r c.listed-rule-items.result.now c.none-patterns.result c.none-patterns.ensures.last c.none-patterns.ensures.partial }

pub returns-then-is_complete-clause-same : goal.returns-then-is_complete-clause-same
returns-then-is_complete-clause-same c =
    let client = c.args.client.now in
    let rules = c.listed-rule-items.result.now in
    let i = c.loop-rule.rule-index in
    let bare : (length c.rule-item.result.targets == 0) ≡ true = ap (λ (ts : List Target). length ts == 0) (sym c.targets.ensures) ∙ sym c.is_empty.ensures ∙ c.if-not-is_empty.false in
    let walked : AllWalked client c.args.kind rules (i + 1) c.add_rule.new.self =
    all_rule client c.args.kind rules i c.loop-rule.number c.rule-item.result c.loop-rule.patterns c.add_rule.new.self
    c.loop-rule-test.true c.rule-item.is c.loop-rule.invariant.numbered (sym c.is_about.ensures ∙ c.if-is_about.true) bare c.in_ok-add_rule.ensures c.loop-rule.invariant.walked in
    subst (λ (rs : List Rule). (r : Content) → r.kind ≡ c.args.kind → (l : Leaf) → rules_in c.add_rule.new.self l ≡ pattern_rules rs client r l) c.listed-rule-items.ensures.rules
    (λ r same. policy_whole client r rules (i + 1) c.add_rule.new.self (sym c.is_complete.ensures ∙ c.if-is_complete.true) (walked r same))

pub loop-rule-preserved : goal.loop-rule-preserved
loop-rule-preserved c =
    let client = c.args.client.now in
    let rules = c.listed-rule-items.result.now in
    let i = c.loop-rule.rule-index in
    let walked : AllWalked client c.args.kind rules (i + 1) c.if-is_about.patterns =
    elim c.if-is_about.branch [
      | then-is_about+else-not-is_empty+in_ok-add_rule+else-is_complete w ↦ (
          let bare : (length c.rule-item.result.targets == 0) ≡ true = ap (λ (ts : List Target). length ts == 0) (sym w.targets.ensures) ∙ sym w.is_empty.ensures ∙ w.if-not-is_empty.false in
          rw w.patterns-is
          (all_rule client c.args.kind rules i c.loop-rule.number c.rule-item.result c.loop-rule.patterns w.add_rule.new.self
          c.loop-rule-test.true c.rule-item.is c.loop-rule.invariant.numbered (sym c.is_about.ensures ∙ w.if-is_about.true) bare w.in_ok-add_rule.ensures c.loop-rule.invariant.walked)
          )
      | else-is_about w ↦ (
          rw w.patterns-is
          (all_past client c.args.kind rules i c.rule-item.result c.loop-rule.patterns
          c.loop-rule-test.true c.rule-item.is (sym c.is_about.ensures ∙ w.if-is_about.false) c.loop-rule.invariant.walked)
          )
    ] in
    record { numbered = ap (λ (n : ℕ). n + 1) c.loop-rule.invariant.numbered; walked = walked }

pub returns-clause-same : goal.returns-clause-same
returns-clause-same c =
    let client = c.args.client.now in
    subst (λ (rs : List Rule). (r : Content) → r.kind ≡ c.args.kind → (l : Leaf) → rules_in c.loop-rule.patterns l ≡ pattern_rules rs client r l) c.listed-rule-items.ensures.rules
    (λ r same. policy_end client r c.listed-rule-items.result.now c.loop-rule.rule-index c.loop-rule.patterns c.loop-rule-test.false (c.loop-rule.invariant.walked r same))
