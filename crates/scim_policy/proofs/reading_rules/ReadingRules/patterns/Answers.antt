use Rattle.std.proofs.Common.{◌≡◌, ◌≤◌, ◌∙◌, sym, ap, subst, ℕ, ◌+◌, List, map}
use Rattle.std.specs.Prelude.{All}
use Rattle.scim_schema.specs.declared.Leaf.{Leaf}
use Rattle.scim_policy.specs.declared.reading_rules.ReadingRule.{ReadingRule}
use Rattle.scim_policy.specs.Rules.{Rule}
use Rattle.scim_policy.specs.PatternTable.{rules_in}
use Rattle.scim_policy.specs.Selected.{rules_by}
use Rattle.scim_policy.specs.code.Inside.{reading_rule, AreAbove, KnowsNeeds}
use Rattle.scim_policy.proofs.AskedLemmas.{all_told, told_at}
use Rattle.scim_policy.proofs.ReadingRuleLemmas.{SelectedWalked, map_length, item_there, item_low, selected_start, selected_met, selected_past, selected_end, selected_whole}
use Rattle.scim_policy.proofs.reading_rules.ReadingRules.patterns.Goals as goal
use Rattle.scim_policy.proofs.reading_rules.ReadingRules.patterns.Goals.{then-branch+in_ok-add_rule+else-is_complete, else-branch}

pub loop-numbered-init : goal.loop-numbered-init
loop-numbered-init c =
    record {
      told =
          all_told c.self.inside.kind c.args.resource.now c.in_ok-asked.asked c.deref-numbered-items.result.now c.in_ok-asked.ensures
          (subst (All (KnowsNeeds c.self.inside.kind)) (sym c.deref-numbered-items.ensures.value) c.self.invariant.needs);
      walked =
          selected_start c.args.resource.now (map reading_rule c.deref-numbered-items.result.now) c.none-patterns.result
          (subst (λ (rs : List ReadingRule). AreAbove 0 (map reading_rule rs)) (sym c.deref-numbered-items.ensures.value) c.self.invariant.ascending)
          c.none-patterns.ensures.last c.none-patterns.ensures.partial;
    }

pub returns-then-is_complete : goal.returns-then-is_complete
returns-then-is_complete c =
    let rules = c.deref-numbered-items.result.now in
    let ns = map reading_rule rules in
    let i = c.loop-numbered.numbered-index in
    let item = c.numbered-item.result in
    let told = told_at c.args.resource.now _ rules i item c.loop-numbered.invariant.told c.loop-numbered-test.true c.numbered-item.is in
    let walked : SelectedWalked c.args.resource.now ns (i + 1) c.add_rule.new.self =
    selected_met c.args.resource.now ns i (reading_rule item) (item_low rules i c.loop-numbered-test.true) (item_there rules i item c.numbered-item.is)
    c.kind.result c.loop-numbered.patterns c.add_rule.new.self (sym (c.in_ok-is_met.ensures told) ∙ c.if-branch.true) c.kind.ensures c.in_ok-add_rule.ensures c.loop-numbered.invariant.walked in
    subst (λ (ms : List (ℕ × Rule)). (l : Leaf) → rules_in c.add_rule.new.self l ≡ rules_by ms c.args.resource.now l) (ap (map reading_rule) c.deref-numbered-items.ensures.value ∙ c.self.view_is)
    (selected_whole c.args.resource.now ns (i + 1) c.add_rule.new.self (sym c.is_complete.ensures ∙ c.if-is_complete.true) walked)

pub loop-numbered-preserved : goal.loop-numbered-preserved
loop-numbered-preserved c =
    let rules = c.deref-numbered-items.result.now in
    let ns = map reading_rule rules in
    let i = c.loop-numbered.numbered-index in
    let item = c.numbered-item.result in
    let told = told_at c.args.resource.now _ rules i item c.loop-numbered.invariant.told c.loop-numbered-test.true c.numbered-item.is in
    let walked : SelectedWalked c.args.resource.now ns (i + 1) c.if-branch.patterns =
    elim c.if-branch.branch [
      | then-branch+in_ok-add_rule+else-is_complete w ↦ (
          rw w.patterns-is
          (selected_met c.args.resource.now ns i (reading_rule item) (item_low rules i c.loop-numbered-test.true) (item_there rules i item c.numbered-item.is)
          w.kind.result c.loop-numbered.patterns w.add_rule.new.self (sym (c.in_ok-is_met.ensures told) ∙ w.if-branch.true) w.kind.ensures w.in_ok-add_rule.ensures c.loop-numbered.invariant.walked)
          )
      | else-branch w ↦ (
          rw w.patterns-is
          (selected_past c.args.resource.now ns i (reading_rule item) (item_low rules i c.loop-numbered-test.true) (item_there rules i item c.numbered-item.is)
          c.loop-numbered.patterns (sym (c.in_ok-is_met.ensures told) ∙ w.if-branch.false) c.loop-numbered.invariant.walked)
          )
    ] in
    record { told = c.loop-numbered.invariant.told; walked = walked }

pub returns : goal.returns
returns c =
    let rules = c.deref-numbered-items.result.now in
    let ns = map reading_rule rules in
    let i = c.loop-numbered.numbered-index in
    subst (λ (ms : List (ℕ × Rule)). (l : Leaf) → rules_in c.loop-numbered.patterns l ≡ rules_by ms c.args.resource.now l) (ap (map reading_rule) c.deref-numbered-items.ensures.value ∙ c.self.view_is)
    (selected_end c.args.resource.now ns i c.loop-numbered.patterns (subst (λ (n : ℕ). n ≤ i) (sym (map_length rules)) c.loop-numbered-test.false) c.loop-numbered.invariant.walked)
