use Rattle.std.proofs.Common.{◌≡◌, take}
use Rattle.std.specs.Prelude.{map}
use Rattle.std.specs.List.{sum_by}
use Rattle.scim_patch_steps.specs.Patch.{given_in}
use Rattle.scim_patch_steps.specs.Kept.{step_of}
use Rattle.scim_patch_steps.specs.code.Capped.{capped}
use Rattle.scim_patch_steps.proofs.work.all_given.Given as goal

-- what the steps before this one give
abbrev pub invariant-loop-step : goal.invariant-loop-step
invariant-loop-step l = l.sum ≡ capped (sum_by given_in (map step_of (take l.step-index l.steps)))
