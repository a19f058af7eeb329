use Rattle.std.proofs.Common.{◌≡◌}
use Rattle.scim_filter.specs.Truth.{truth_in_value}
use Rattle.scim_policy.specs.Patterns.{decided_for}
use Rattle.scim_policy.specs.PatternTable.{partial_paths}
use Rattle.scim_policy.proofs.PatternLemmas.{rules_from}
use Rattle.scim_policy.proofs.patterns.Patterns.decide_in.Given as goal

abbrev pub invariant-loop-rule : goal.invariant-loop-rule
invariant-loop-rule l =
    decided_for (λ t. truth_in_value t l.value) (rules_from partial_paths l.leaf l.whole l.rule-items l.rule-index)
    ≡ decided_for (λ t. truth_in_value t l.value) (rules_from partial_paths l.leaf l.whole l.rule-items 0)
