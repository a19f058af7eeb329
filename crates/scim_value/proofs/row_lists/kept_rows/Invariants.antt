use Rattle.std.proofs.Common.{◌≡◌, take}
use Rattle.scim_cell.specs.Rows.{restricted}
use Rattle.scim_value.proofs.row_lists.kept_rows.Given as goal

abbrev pub invariant-loop-row : goal.invariant-loop-row
invariant-loop-row g l = l.copies.items ≡ restricted (g.T.RowTest.keeps l.test) (take l.row-index l.own)
