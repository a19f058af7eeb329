use Rattle.std.proofs.Common.{◌≡◌, drop}
use Rattle.std.specs.Prelude.{◌&&◌}
use Rattle.std.specs.List.{list_any}
use Rattle.scim_cell.specs.declared.rows.Field.{Field}
use Rattle.scim_schema.specs.Units.{is_same_leaf}
use Rattle.scim_filter.specs.Relation.{stands}
use Rattle.scim_filter.specs.code.Looks.{admitted}
use Rattle.scim_filter.proofs.truth.fields_stand.Given as goal

abbrev pub invariant-loop-field : goal.invariant-loop-field
invariant-loop-field g l =
    let passes = λ (f : Field). admitted g.T.RowTest.keeps l.look l.row f.leaf && (is_same_leaf f.leaf l.leaf && stands l.exact l.op f.atom l.literal) in
    list_any passes (drop l.field-index l.field-items) ≡ list_any passes l.row.fields
