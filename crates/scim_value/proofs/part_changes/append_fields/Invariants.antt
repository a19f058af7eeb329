use Rattle.std.proofs.Common.{◌≡◌, ◌++◌, take, map}
use Rattle.scim_cell.specs.declared.rows.Field.{Field}
use Rattle.scim_cell.specs.Place.{place_at}
use Rattle.scim_cell.specs.Content.{entries_of}
use Rattle.scim_value.proofs.part_changes.append_fields.Given as goal

abbrev pub invariant-loop-field : goal.invariant-loop-field
invariant-loop-field l = entries_of l.cells.items ≡ entries_of l.fn.cells.items ++ map (λ (f : Field). (place_at f.leaf l.position, f.atom)) (take l.field-index l.fields)
