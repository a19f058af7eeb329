-- The patches and outcomes that values in code represent.
use Rattle.std.specs.Prelude.{Bool, List, map, Result, Ok, Err}
use Rattle.scim_schema.specs.declared.Kind.{Kind}
use Rattle.scim_cell.specs.Content.{Content}
use Rattle.scim_change.specs.declared.replacing.Changed.{Changed}
use Rattle.scim_patch_steps.specs.declared.steps.StepFault.{StepFault}
use Rattle.scim_patch_steps.specs.Changes.{change_of}
use Rattle.scim_patch_steps.specs.declared.patches.Step.{Step as KeptStep}
use Rattle.scim_patch_steps.specs.declared.patches.Step.TheVariants as kept
use Rattle.scim_patch_steps.specs.Patch.{Step, Pathless, Of, Patch}

-- a patch as the code keeps it: its kind and its steps
pub record Kept : Type 0 where
  pub kind : Kind
  pub steps : List KeptStep

-- the step that a value in code represents
abbrev pub step_of : KeptStep → Step
step_of kept.Pathless = Pathless
step_of (kept.Of u change) = Of u (change_of change)

-- the patch that a value in code represents
abbrev pub patch_of : Kept → Patch
patch_of p = record { kind = p.kind; steps = map step_of p.steps }

-- the outcome that a result in code represents: the resource and whether the patch changed it, or the fault
abbrev pub outcome : Result Changed StepFault → Result (Content × Bool) StepFault
outcome (Ok c) = Ok (c.resource, c.changed)
outcome (Err e) = Err e
