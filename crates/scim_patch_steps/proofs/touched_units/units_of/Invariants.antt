use Rattle.std.proofs.Common.{◌≡◌, take}
use Rattle.std.specs.Prelude.{map}
use Rattle.std.specs.List.{flat_map}
use Rattle.scim_patch_steps.specs.Patch.{units_in}
use Rattle.scim_patch_steps.specs.Kept.{step_of}
use Rattle.scim_patch_steps.proofs.touched_units.units_of.Given as goal

-- the units of the steps before this one
abbrev pub invariant-loop-step : goal.invariant-loop-step
invariant-loop-step l = l.units.items ≡ flat_map units_in (map step_of (take l.step-index l.steps))
