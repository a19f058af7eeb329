use Rattle.std.proofs.Common.{◌≡◌, ◌∙◌, refl, sym, ap, subst, ℕ, ◌+◌, List}
use Rattle.scim_schema.specs.declared.Leaf.{Leaf}
use Rattle.scim_policy.specs.Rules.{Rule}
use Rattle.scim_policy.specs.Patterns.{pattern_rules}
use Rattle.scim_policy.specs.PatternTable.{rules_in}
use Rattle.scim_policy.proofs.PatternLemmas.{PolicyWalked, policy_start, policy_rule, policy_past, policy_end, policy_whole}
use Rattle.scim_policy.proofs.rules.Policy.patterns.Goals as goal
use Rattle.scim_policy.proofs.rules.Policy.patterns.Goals.{then-branch+in_ok-add_rule+else-is_complete, else-branch}

pub loop-rule-init : goal.loop-rule-init
loop-rule-init c =
    record { numbered = refl; walked = policy_start c.args.client.now c.args.resource.now c.listed-rule-items.result.now c.none-patterns.result c.none-patterns.ensures.last c.none-patterns.ensures.partial }

pub returns-then-is_complete : goal.returns-then-is_complete
returns-then-is_complete c =
    let client = c.args.client.now in
    let rules = c.listed-rule-items.result.now in
    let i = c.loop-rule.rule-index in
    let walked : PolicyWalked client c.args.resource.now rules (i + 1) c.add_rule.new.self =
    policy_rule client c.args.resource.now c.kind.result rules i c.loop-rule.number c.rule-item.result c.loop-rule.patterns c.add_rule.new.self
    c.loop-rule-test.true c.rule-item.is c.loop-rule.invariant.numbered c.kind.ensures (sym c.in_ok-speaks_of.ensures ∙ c.if-branch.true) c.in_ok-add_rule.ensures c.loop-rule.invariant.walked in
    subst (λ (rs : List Rule). (l : Leaf) → rules_in c.add_rule.new.self l ≡ pattern_rules rs client c.args.resource.now l) c.listed-rule-items.ensures.rules
    (policy_whole client c.args.resource.now rules (i + 1) c.add_rule.new.self (sym c.is_complete.ensures ∙ c.if-is_complete.true) walked)

pub loop-rule-preserved : goal.loop-rule-preserved
loop-rule-preserved c =
    let client = c.args.client.now in
    let rules = c.listed-rule-items.result.now in
    let i = c.loop-rule.rule-index in
    let walked : PolicyWalked client c.args.resource.now rules (i + 1) c.if-branch.patterns =
    elim c.if-branch.branch [
      | then-branch+in_ok-add_rule+else-is_complete w ↦ (
          rw w.patterns-is
          (policy_rule client c.args.resource.now w.kind.result rules i c.loop-rule.number c.rule-item.result c.loop-rule.patterns w.add_rule.new.self
          c.loop-rule-test.true c.rule-item.is c.loop-rule.invariant.numbered w.kind.ensures (sym c.in_ok-speaks_of.ensures ∙ w.if-branch.true) w.in_ok-add_rule.ensures c.loop-rule.invariant.walked)
          )
      | else-branch w ↦ (
          rw w.patterns-is
          (policy_past client c.args.resource.now rules i c.rule-item.result c.loop-rule.patterns
          c.loop-rule-test.true c.rule-item.is (sym c.in_ok-speaks_of.ensures ∙ w.if-branch.false) c.loop-rule.invariant.walked)
          )
    ] in
    record { numbered = ap (λ (n : ℕ). n + 1) c.loop-rule.invariant.numbered; walked = walked }

pub returns : goal.returns
returns c =
    let client = c.args.client.now in
    subst (λ (rs : List Rule). (l : Leaf) → rules_in c.loop-rule.patterns l ≡ pattern_rules rs client c.args.resource.now l) c.listed-rule-items.ensures.rules
    (policy_end client c.args.resource.now c.listed-rule-items.result.now c.loop-rule.rule-index c.loop-rule.patterns c.loop-rule-test.false c.loop-rule.invariant.walked)
