use Rattle.std.proofs.Common.{take}
use Rattle.scim_patch_steps.specs.code.Touched.{PassTheSame}
use Rattle.scim_patch_steps.proofs.touched_units.distinct_units.Given as goal

-- the units before this one
abbrev pub invariant-loop-unit : goal.invariant-loop-unit
invariant-loop-unit l = PassTheSame l.distinct.items (take l.unit-index l.unit-items)
