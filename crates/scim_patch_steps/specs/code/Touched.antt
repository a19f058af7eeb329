-- The rows of the units that the steps of a patch name.
use Rattle.std.specs.Prelude.{◌≡◌, Bool, not, List, filter}
use Rattle.std.specs.List.{list_any}
use Rattle.scim_schema.specs.declared.Unit.{Unit as AttributeUnit}
use Rattle.scim_schema.specs.Units.{is_same_unit}
use Rattle.scim_cell.specs.Rows.{Row, values}
use Rattle.scim_change.specs.Agreement.{are_same_values}

-- whether the unit is in the list
abbrev pub is_about : List AttributeUnit → AttributeUnit → Bool
is_about us u = list_any (is_same_unit u) us

-- the rows that belong to one of these units
abbrev pub rows_about : List AttributeUnit → List Row → List Row
rows_about us rs = filter (λ (r : Row). is_about us r.unit) rs

-- whether the rows before and the rows afterwards have different values of the unit
abbrev pub is_other : List Row → List Row → AttributeUnit → Bool
is_other before rs u = not (are_same_values (values u before) (values u rs))

-- the lists have the same units, maybe not equally often: a test that one of either passes, one of the other does
abbrev pub PassTheSame : List AttributeUnit → List AttributeUnit → Type 0
PassTheSame us vs = (p : AttributeUnit → Bool) → list_any p us ≡ list_any p vs
