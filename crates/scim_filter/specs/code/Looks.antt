-- The fields that a filter may see, as specified.
use Rattle.std.specs.Prelude.{Bool, true, List}
use Rattle.scim_cell.specs.Rows.{Row, Test, has_fields, restricted_row, restricted}
use Rattle.scim_filter.specs.declared.visible_rows.Look.{Look}
use Rattle.scim_filter.specs.declared.visible_rows.Look.TheVariants as looks

-- whether the filter may see a field of a row, by the field's leaf
unfoldable pub admitted : {T : Type 0} → (T → Test) → Look T → Test
admitted keeps looks.Everything r leaf = true
admitted keeps (looks.Admitted test) r leaf = keeps test.now r leaf

-- whether a row counts as present; with a test, a row counts only if it has an admitted field
unfoldable pub stays : {T : Type 0} → (T → Test) → Look T → Row → Bool
stays keeps looks.Everything r = true
stays keeps (looks.Admitted test) r = has_fields (restricted_row (keeps test.now) r)

-- the rows as the filter sees them
unfoldable pub looked : {T : Type 0} → (T → Test) → Look T → List Row → List Row
looked keeps looks.Everything rs = rs
looked keeps (looks.Admitted test) rs = restricted (keeps test.now) rs
