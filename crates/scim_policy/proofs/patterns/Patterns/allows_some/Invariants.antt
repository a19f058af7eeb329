use Rattle.std.proofs.Common.{◌≡◌}
use Rattle.std.specs.List.{list_any}
use Rattle.scim_policy.specs.declared.rules.Decision.{Decision}
use Rattle.scim_policy.specs.Patterns.{decisions_of}
use Rattle.scim_policy.specs.PatternTable.{partial_paths}
use Rattle.scim_policy.proofs.PatternLemmas.{rules_from}
use Rattle.scim_policy.proofs.patterns.Patterns.allows_some.Given as goal

abbrev pub invariant-loop-rule : goal.invariant-loop-rule
invariant-loop-rule l =
    list_any (λ (d : Decision). d.allow) (decisions_of (rules_from partial_paths l.leaf l.whole l.rule-items l.rule-index))
    ≡ list_any (λ (d : Decision). d.allow) (decisions_of (rules_from partial_paths l.leaf l.whole l.rule-items 0))
