use Rattle.std.proofs.Common.{◌≡◌}
use Rattle.std.specs.Prelude.{filter}
use Rattle.std.specs.Ordering.{is_lt, is_gt}
use Rattle.scim_cell.specs.declared.rows.Field.{Field}
use Rattle.scim_patch_values.specs.Fields.{field_cmp}
use Rattle.scim_patch_values.proofs.fields.parted.Given as goal

-- the fields so far, on both sides
abbrev pub invariant-loop-other : goal.invariant-loop-other
invariant-loop-other l = record {
  before : l.sides.before.items ≡ filter (λ (other : Field). is_lt (field_cmp other l.field)) l.yielded;
  behind : l.sides.behind.items ≡ filter (λ (other : Field). is_gt (field_cmp other l.field)) l.yielded;
}
