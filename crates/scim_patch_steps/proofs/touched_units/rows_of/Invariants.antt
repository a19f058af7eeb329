use Rattle.std.proofs.Common.{◌≡◌, take}
use Rattle.scim_patch_steps.specs.code.Touched.{rows_about}
use Rattle.scim_patch_steps.proofs.touched_units.rows_of.Given as goal

-- the copies of the rows before this one
abbrev pub invariant-loop-row : goal.invariant-loop-row
invariant-loop-row l = l.copies.items ≡ rows_about l.units (take l.row-index l.row-items)
