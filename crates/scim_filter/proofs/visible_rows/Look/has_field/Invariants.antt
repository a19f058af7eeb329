use Rattle.std.proofs.Common.{◌≡◌, drop, true, ◌&&◌}
use Rattle.std.specs.List.{list_any}
use Rattle.scim_cell.specs.declared.rows.Field.{Field}
use Rattle.scim_filter.specs.code.Looks.{admitted}
use Rattle.scim_filter.proofs.visible_rows.Look.has_field.Given as goal

abbrev pub invariant-loop-field : goal.invariant-loop-field
invariant-loop-field g l =
    let passes = λ (f : Field). admitted g.T.RowTest.keeps l.self l.row f.leaf && true in
    list_any passes (drop l.field-index l.field-items) ≡ list_any passes l.row.fields
