use Rattle.std.proofs.Common.{◌≡◌, ◌+◌, drop}
use Rattle.scim_schema.specs.declared.Leaf.{Leaf}
use Rattle.scim_policy.specs.Table.{or_else}
use Rattle.scim_policy.specs.Table.{decided}
use Rattle.scim_policy.specs.code.Walk.{by_rules}
use Rattle.scim_policy.proofs.decisions.Decisions.add_rules.Given as goal

abbrev pub invariant-loop-rule : goal.invariant-loop-rule
invariant-loop-rule l =
    (l.number ≡ l.rule-index)
    × ((m : Leaf) → or_else (decided l.self m) (by_rules l.client l.op l.resource m (l.rule-index + 1) (drop l.rule-index l.rules)) ≡ or_else (decided l.fn.self m) (by_rules l.client l.op l.resource m 1 l.rules))
