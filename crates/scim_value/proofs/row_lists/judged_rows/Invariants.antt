use Rattle.std.proofs.Common.{◌≡◌, take}
use Rattle.scim_cell.specs.Rows.{restricted}
use Rattle.scim_value.proofs.row_lists.judged_rows.Given as goal

abbrev pub invariant-loop-row : goal.invariant-loop-row
invariant-loop-row g l = l.copies.items ≡ restricted (g.J.RowJudge.keeps l.judge) (take l.row-index l.own)
