use Rattle.std.proofs.Common.{◌≡◌, ◌∙◌, sym, ap, ◌+◌, ◌∷◌, List, true}
use Rattle.std.specs.Prelude.{not, Option}
use Rattle.scim_policy.specs.declared.rules.Decision.{Decision}
use Rattle.scim_policy.specs.Patterns.{PatternRule, decisions_of}
use Rattle.scim_policy.specs.PatternTable.{partial_paths}
use Rattle.scim_policy.proofs.TableLemmas.{none_of}
use Rattle.scim_policy.specs.PatternTable.{partial_paths}
use Rattle.scim_policy.proofs.PatternLemmas.{rules_from, rules_counted, rules_other, whole_after, whole_passed, whole_still}
use Rattle.scim_policy.proofs.patterns.Patterns.whole.Goals as goal
use Rattle.scim_policy.proofs.patterns.Patterns.whole.Goals.{then-counts+else-not-rule+then-is_none, then-counts+else-not-rule+else-is_none, else-counts}

pub loop-rule-preserved : goal.loop-rule-preserved
loop-rule-preserved c =
    let l = c.args.leaf in
    let whole = c.decided-whole.result in
    let rules = c.deref-rule-items.result.now in
    let rule = c.rule-item.result in
    let i = c.loop-rule.rule-index in
    let left = decisions_of (rules_from partial_paths l whole rules (i + 1)) in
    elim c.if-counts.branch [
      | then-counts+else-not-rule+then-is_none w ↦ (
          let allows : rule.decision.allow ≡ true = w.if-not-rule.false in
          let none = none_of c.loop-rule.first (w.is_none.ensures ∙ ap not w.if-is_none.true) in
          let next : rules_from partial_paths l whole rules i ≡ _ = rules_counted partial_paths l whole rules rule i c.loop-rule-test.true c.rule-item.is (sym c.counts.ensures ∙ w.if-counts.true) in
          rw w.first-is
          (sym (whole_passed rule.decision left allows)
          ∙ ap (λ (o : Option Decision). whole_after o (rule.decision ∷ left)) (sym none)
          ∙ ap (λ (rs : List PatternRule). whole_after c.loop-rule.first (decisions_of rs)) (sym next)
          ∙ c.loop-rule.invariant)
          )
      | then-counts+else-not-rule+else-is_none w ↦ (
          let allows : rule.decision.allow ≡ true = w.if-not-rule.false in
          let next : rules_from partial_paths l whole rules i ≡ _ = rules_counted partial_paths l whole rules rule i c.loop-rule-test.true c.rule-item.is (sym c.counts.ensures ∙ w.if-counts.true) in
          rw w.first-is
          (sym (whole_still c.loop-rule.first rule.decision left (w.is_none.ensures ∙ ap not w.if-is_none.false) allows)
          ∙ ap (λ (rs : List PatternRule). whole_after c.loop-rule.first (decisions_of rs)) (sym next)
          ∙ c.loop-rule.invariant)
          )
      | else-counts w ↦ (
          let next : rules_from partial_paths l whole rules i ≡ rules_from partial_paths l whole rules (i + 1) = rules_other partial_paths l whole rules rule i c.loop-rule-test.true c.rule-item.is (sym c.counts.ensures ∙ w.if-counts.false) in
          rw w.first-is
          (ap (λ (rs : List PatternRule). whole_after c.loop-rule.first (decisions_of rs)) (sym next)
          ∙ c.loop-rule.invariant)
          )
    ]
