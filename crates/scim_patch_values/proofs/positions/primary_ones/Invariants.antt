use Rattle.std.proofs.Common.{◌≡◌, take}
use Rattle.std.specs.Prelude.{filter}
use Rattle.scim_cell.specs.Rows.{is_primary}
use Rattle.scim_patch_values.proofs.positions.primary_ones.Given as goal

abbrev pub invariant-loop-value : goal.invariant-loop-value
invariant-loop-value l = l.primary.items ≡ filter is_primary (take l.value-index l.given)
