use Rattle.std.proofs.Common.{◌∙◌, sym, ap, List, Bool}
use Rattle.std.specs.Prelude.{Option}
use Rattle.scim_cell.specs.Rows.{rows}
use Rattle.scim_filter_grammar.specs.Tree.{Tree}
use Rattle.scim_filter.specs.Truth.{truth_at}
use Rattle.scim_policy.specs.declared.rules.Decision.{Decision}
use Rattle.scim_policy.specs.declared.patterns.PartialRule.{PartialRule}
use Rattle.scim_policy.specs.Patterns.{decided_for}
use Rattle.scim_policy.specs.PatternTable.{partial_paths, rules_in}
use Rattle.scim_policy.proofs.PatternLemmas.{rules_from, decided_here, decided_behind, decided_beside}
use Rattle.scim_policy.proofs.patterns.Patterns.decide_at.Goals as goal
use Rattle.scim_policy.proofs.patterns.Patterns.decide_at.Goals.{else-counts-via-then-counts+in_ok-is_for+else-branch, else-counts-via-else-counts}

pub returns-then-branch : goal.returns-then-branch
unfolding rules_in
returns-then-branch c =
    let l = c.args.leaf in
    let matches : Tree → Bool = λ t. truth_at t c.args.position (rows c.args.resource.now) in
    decided_here partial_paths l c.decided-whole.result c.deref-rule-items.result.now c.rule-item.result c.loop-rule.rule-index c.loop-rule-test.true c.rule-item.is matches
    (sym c.counts.ensures ∙ c.if-counts.true) (sym c.in_ok-is_for.ensures ∙ c.if-branch.true)
    ∙ c.loop-rule.invariant
    ∙ ap (λ (rs : List PartialRule). decided_for matches (rules_from partial_paths l c.decided-whole.result rs 0)) c.deref-rule-items.ensures.value
    ∙ ap (λ (o : Option Decision). decided_for matches (rules_from partial_paths l o c.args.self.now.partial.items 0)) c.decided-whole.ensures

pub loop-rule-preserved : goal.loop-rule-preserved
loop-rule-preserved c =
    let l = c.args.leaf in
    let matches : Tree → Bool = λ t. truth_at t c.args.position (rows c.args.resource.now) in
    elim c.else-counts.branch [
      | else-counts-via-then-counts+in_ok-is_for+else-branch w ↦ (
          decided_behind partial_paths l c.decided-whole.result c.deref-rule-items.result.now c.rule-item.result c.loop-rule.rule-index c.loop-rule-test.true c.rule-item.is matches
          (sym c.counts.ensures ∙ w.if-counts.true) (sym w.in_ok-is_for.ensures ∙ w.if-branch.false)
          ∙ c.loop-rule.invariant
          )
      | else-counts-via-else-counts w ↦ (
          decided_beside partial_paths l c.decided-whole.result c.deref-rule-items.result.now c.rule-item.result c.loop-rule.rule-index c.loop-rule-test.true c.rule-item.is matches
          (sym c.counts.ensures ∙ w.if-counts.false)
          ∙ c.loop-rule.invariant
          )
    ]
