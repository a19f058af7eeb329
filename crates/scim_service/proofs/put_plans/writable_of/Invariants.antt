use Rattle.std.proofs.Common.{◌≡◌, filter, take}
use Rattle.scim_policy.specs.PatternTable.{access_in}
use Rattle.scim_service.specs.Step.{is_writable}
use Rattle.scim_service.proofs.put_plans.writable_of.Given as goal

abbrev pub invariant-loop-unit : goal.invariant-loop-unit
invariant-loop-unit l = l.writable.items ≡ filter (is_writable l.kind (access_in l.rights)) (take l.unit-index l.units)
