use Rattle.std.proofs.Common.{◌≡◌, ◌++◌, drop}
use Rattle.std.specs.Prelude.{filter_map}
use Rattle.scim_policy_warnings.specs.Warnings.{lost_unit}
use Rattle.scim_policy_warnings.proofs.losses.lost_units.Given as goal

-- the units so far, and those from this one on, are all
abbrev pub invariant-loop-unit : goal.invariant-loop-unit
invariant-loop-unit l =
    l.lost.items ++ filter_map (lost_unit l.rules l.client l.op l.kind) (drop l.unit-index l.unit-items) ≡ filter_map (lost_unit l.rules l.client l.op l.kind) l.unit-items
