use Rattle.std.proofs.Common.{◌≡◌, drop}
use Rattle.std.specs.Prelude.{map}
use Rattle.std.specs.List.{list_any}
use Rattle.scim_patch_steps.specs.Patch.{is_unseen_writing}
use Rattle.scim_patch_steps.specs.Kept.{step_of}
use Rattle.scim_patch_steps.proofs.touched_units.is_any_unseen_writing.Given as goal

-- those that are left decide
abbrev pub invariant-loop-step : goal.invariant-loop-step
invariant-loop-step l =
    list_any (is_unseen_writing l.kind) (map step_of (drop l.step-index l.steps)) ≡ list_any (is_unseen_writing l.kind) (map step_of l.steps)
