use Rattle.std.proofs.Common.{◌≡◌, take, filter}
use Rattle.scim_cell.specs.declared.rows.Field.{Field}
use Rattle.scim_cell.proofs.rows.judged_fields.Given as goal

abbrev pub invariant-loop-index : goal.invariant-loop-index
invariant-loop-index g l = l.copies.items ≡ filter (λ (f : Field). g.J.RowJudge.keeps l.judge l.row f.leaf) (take l.index l.row.fields)
