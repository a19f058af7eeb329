-- Whether a draft has the same values of a unit as a part.
use Rattle.std.specs.Prelude.{Bool, false, ◌&&◌, List, [], if◌then◌else◌}
use Rattle.std.specs.Cmp.Lexicographic.{pointwise}
use Rattle.scim_schema.specs.declared.Kind.{Kind}
use Rattle.scim_schema.specs.declared.Unit.{Unit as AttributeUnit}
use Rattle.scim_schema.specs.Mutability.{is_fixed, is_secret}
use Rattle.scim_cell.specs.Content.{Content}
use Rattle.scim_cell.specs.Equality.{is_same_row}
use Rattle.scim_cell.specs.Rows.{Row, rows, values}
use Rattle.scim_cell.specs.SameValues.{with_values}
use Rattle.scim_body.specs.Drafts.{Draft, gives}

-- the values of a unit that would be read from a body with these values: each distinct value once, and no
-- values if the unit is readOnly
abbrev pub as_given : Kind → AttributeUnit → List Row → List Row
as_given kind u vs = if is_fixed kind u then [] else with_values u.attribute [] vs

-- whether two lists of values are equal, element by element
abbrev pub are_same_values : List Row → List Row → Bool
are_same_values = pointwise is_same_row

-- whether the draft has the same values of the unit as the part; false if the unit is writeOnly and the body
-- has a value for it, since such values can't be compared
unfoldable pub agrees : Draft → AttributeUnit → Content → Bool
agrees d u c = if is_secret d.kind u && gives d u then false else are_same_values (values u d.rows) (as_given d.kind u (values u (rows c)))
