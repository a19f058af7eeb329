use Rattle.std.proofs.Common.{◌≡◌, ◌++◌, drop, map}
use Rattle.scim_policy.specs.Patterns.{decisions_of}
use Rattle.scim_policy.specs.PatternTable.{partial_paths, partial_rules}
use Rattle.scim_policy.proofs.patterns.Patterns.pattern.Given as goal

abbrev pub invariant-loop-rule : goal.invariant-loop-rule
invariant-loop-rule l =
    l.decisions.items ++ decisions_of (partial_rules l.leaf l.whole (map partial_paths (drop l.rule-index l.rule-items))) ≡ decisions_of (partial_rules l.leaf l.whole (map partial_paths l.self.partial.items))
