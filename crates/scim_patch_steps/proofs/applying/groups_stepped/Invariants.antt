use Rattle.std.proofs.Common.{◌≡◌, drop}
use Rattle.std.specs.Prelude.{Ok, map}
use Rattle.scim_patch_steps.specs.Patch.{all_stepped}
use Rattle.scim_patch_steps.specs.Kept.{step_of}
use Rattle.scim_patch_steps.specs.code.Groups.{joined, AreGroups, AreOfResource}
use Rattle.scim_patch_steps.proofs.applying.groups_stepped.Given as goal

-- the steps that are left go on from the rows so far, which are those of a resource
abbrev pub invariant-loop-step : goal.invariant-loop-step
invariant-loop-step l = record {
  so_far : all_stepped l.kind (map step_of (drop l.step-index l.steps)) (Ok (joined l.groups.items)) ≡ all_stepped l.kind (map step_of l.steps) (Ok (joined l.fn.groups.items));
  groups : AreGroups l.groups.items;
  rows : AreOfResource l.kind (joined l.groups.items);
}
