use Rattle.std.proofs.Common.{◌≡◌, drop}
use Rattle.std.specs.Prelude.{map}
use Rattle.std.specs.List.{flat_map}
use Rattle.scim_patch_steps.specs.Patch.{units_in}
use Rattle.scim_patch_steps.specs.Kept.{step_of}
use Rattle.scim_policy.specs.PatternTable.{access_in}
use Rattle.scim_service.specs.Step as spec
use Rattle.scim_service.proofs.patch_plans.first_forbidden.Given as goal

-- the steps that are left decide
abbrev pub invariant-loop-step : goal.invariant-loop-step
invariant-loop-step l =
    spec.first_forbidden l.kind (access_in l.rights) (flat_map units_in (map step_of (drop l.step-index l.steps)))
    ≡ spec.first_forbidden l.kind (access_in l.rights) (flat_map units_in (map step_of l.steps))
