use Rattle.std.proofs.Common.{◌≡◌, drop}
use Rattle.scim_cell.specs.Rows.{atom_in}
use Rattle.scim_cell.proofs.rows.Row.get.Given as goal

abbrev pub invariant-loop-field : goal.invariant-loop-field
invariant-loop-field l = atom_in l.leaf l.field-items ≡ atom_in l.leaf (drop l.field-index l.field-items)
