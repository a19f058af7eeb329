use Rattle.std.proofs.Common.{◌≡◌, take, filter}
use Rattle.scim_cell.specs.declared.rows.Field.{Field}
use Rattle.scim_cell.proofs.rows.kept_fields.Given as goal

abbrev pub invariant-loop-field : goal.invariant-loop-field
invariant-loop-field g l = l.copies.items ≡ filter (λ (f : Field). g.T.RowTest.keeps l.test l.row f.leaf) (take l.field-index l.field-items)
