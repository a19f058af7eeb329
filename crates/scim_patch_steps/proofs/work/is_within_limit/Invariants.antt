use Rattle.std.proofs.Common.{◌≡◌, ◌≤◌, take}
use Rattle.std.specs.Prelude.{map}
use Rattle.std.specs.List.{sum_by}
use Rattle.scim_cell.specs.Rows.{rows}
use Rattle.scim_patch_steps.specs.declared.work.TheConstants.{MOST_WORK}
use Rattle.scim_patch_steps.specs.Patch.{given_in, set_in, step_work}
use Rattle.scim_patch_steps.specs.Kept.{step_of}
use Rattle.scim_patch_steps.specs.code.Capped.{capped}
use Rattle.scim_patch_steps.proofs.work.is_within_limit.Given as goal

-- the work of the steps before this one, which is within the limit
abbrev pub invariant-loop-step : goal.invariant-loop-step
invariant-loop-step l = record {
  so_far : l.work ≡ capped (sum_by (step_work l.kind (sum_by given_in (map step_of l.steps)) (sum_by set_in (map step_of l.steps)) (rows l.part)) (map step_of (take l.step-index l.steps)));
  few : l.work ≤ MOST_WORK;
}
