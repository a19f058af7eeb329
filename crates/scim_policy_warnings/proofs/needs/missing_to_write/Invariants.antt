use Rattle.std.proofs.Common.{◌≡◌, drop}
use Rattle.std.specs.Prelude.{filter}
use Rattle.std.specs.List.{flat_map}
use Rattle.scim_schema.specs.Units.{is_same_unit, unit_of}
use Rattle.scim_policy_warnings.specs.Needs as spec
use Rattle.scim_policy_warnings.proofs.needs.missing_to_write.Given as goal

-- the first that is missing is needed at one of the leaves that are left
abbrev pub invariant-loop-leaf : goal.invariant-loop-leaf
invariant-loop-leaf l =
    spec.missing l.rules l.client l.kind (flat_map (spec.needed_at l.op l.kind) (filter (λ m. is_same_unit (unit_of m) l.unit) (drop l.leaf-index l.leaf-items)))
    ≡ spec.missing l.rules l.client l.kind (flat_map (spec.needed_at l.op l.kind) (filter (λ m. is_same_unit (unit_of m) l.unit) l.leaf-items))
