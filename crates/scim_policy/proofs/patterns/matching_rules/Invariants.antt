use Rattle.std.proofs.Common.{◌≡◌, ◌++◌, drop, map}
use Rattle.scim_policy.specs.PatternTable.{partial_paths}
use Rattle.scim_policy.specs.code.ValueWalk.{matching, matching_paths}
use Rattle.scim_policy.proofs.patterns.matching_rules.Given as goal

abbrev pub invariant-loop-rule : goal.invariant-loop-rule
invariant-loop-rule l =
    map matching_paths l.found.items ++ map (matching l.value) (map partial_paths (drop l.rule-index l.rules)) ≡ map (matching l.value) (map partial_paths l.rules)
