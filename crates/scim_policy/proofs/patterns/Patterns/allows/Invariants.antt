use Rattle.std.proofs.Common.{◌≡◌}
use Rattle.scim_policy.specs.Patterns.{decisions_of, first_or_denied}
use Rattle.scim_policy.specs.code.ValueWalk.{matching_paths}
use Rattle.scim_policy.proofs.PatternLemmas.{rules_from}
use Rattle.scim_policy.proofs.patterns.Patterns.allows.Given as goal

abbrev pub invariant-loop-rule : goal.invariant-loop-rule
invariant-loop-rule l =
    first_or_denied (decisions_of (rules_from matching_paths l.leaf l.whole l.matching l.rule-index))
    ≡ first_or_denied (decisions_of (rules_from matching_paths l.leaf l.whole l.matching 0))
