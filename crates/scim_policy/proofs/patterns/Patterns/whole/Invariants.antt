use Rattle.std.proofs.Common.{◌≡◌}
use Rattle.scim_policy.specs.Patterns.{decisions_of, whole_decision}
use Rattle.scim_policy.specs.PatternTable.{partial_paths}
use Rattle.scim_policy.proofs.PatternLemmas.{rules_from, whole_after}
use Rattle.scim_policy.proofs.patterns.Patterns.whole.Given as goal

abbrev pub invariant-loop-rule : goal.invariant-loop-rule
invariant-loop-rule l =
    whole_after l.first (decisions_of (rules_from partial_paths l.leaf l.whole l.rule-items l.rule-index))
    ≡ whole_decision (decisions_of (rules_from partial_paths l.leaf l.whole l.rule-items 0))
