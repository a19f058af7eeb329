use Rattle.std.proofs.Common.{◌≡◌, drop}
use Rattle.std.specs.List.{list_any}
use Rattle.scim_cell.specs.Rows.{rows}
use Rattle.scim_patch_steps.specs.code.Touched.{is_other}
use Rattle.scim_patch_steps.proofs.touched_units.is_any_other.Given as goal

-- those that are left decide
abbrev pub invariant-loop-unit : goal.invariant-loop-unit
invariant-loop-unit l = list_any (is_other l.before (rows l.part)) (drop l.unit-index l.units) ≡ list_any (is_other l.before (rows l.part)) l.units
