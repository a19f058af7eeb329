use Rattle.std.proofs.Common.{◌≡◌, ◌++◌, drop}
use Rattle.std.specs.List.{flat_map}
use Rattle.scim_policy_warnings.specs.Warnings.{warnings_on}
use Rattle.scim_policy_warnings.proofs.policy_warnings.push_of_kind.Given as goal

-- the warnings so far, and those for the operations from this one on, are all
abbrev pub invariant-loop-op : goal.invariant-loop-op
invariant-loop-op l =
    l.found.items ++ flat_map (warnings_on l.rules l.client l.kind) (drop l.op-index l.op-items)
    ≡ l.initial.found.items ++ flat_map (warnings_on l.rules l.client l.kind) l.op-items
