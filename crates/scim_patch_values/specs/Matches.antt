-- The values of a unit after a step on the values that match a filter, on listed values, or on all values
-- (RFC 7644 section 3.5.2).
use Rattle.std.specs.Prelude.{ℕ, Bool, false, List, [], ◌∷◌, ◌++◌, map, filter, Option, Some, option_map, if◌then◌else◌}
use Rattle.std.specs.List.{list_any}
use Rattle.std.specs.Str.{bytes_eq}
use Rattle.scim_schema.specs.declared.Attribute.{Attribute}
use Rattle.scim_schema.specs.declared.SubAttribute.{SubAttribute}
use Rattle.scim_schema.specs.declared.SubAttribute.TheVariants.{Value}
use Rattle.scim_schema.specs.declared.Unit.{Unit as AttributeUnit}
use Rattle.scim_schema.specs.Units.{leaf_at}
use Rattle.scim_cell.specs.declared.atoms.Atom.{Atom}
use Rattle.scim_cell.specs.declared.atoms.Atom.TheVariants.{Text}
use Rattle.scim_cell.specs.declared.rows.Field.{Field}
use Rattle.scim_cell.specs.Rows.{Row, atom_in, is_primary}
use Rattle.scim_cell.specs.SameValues.{is_same_value, with_values}
use Rattle.scim_filter_grammar.specs.Tree.{Tree}
use Rattle.scim_filter.specs.Truth.{truth_in_value}
use Rattle.scim_patch_values.specs.declared.positions.Position.{Position}
use Rattle.scim_patch_values.specs.Described.{described}
use Rattle.scim_patch_values.specs.Fields.{over, row_over, row_without}

-- the `Position` of a value that the step leaves unchanged
abbrev pub kept : Row → Position
kept value = record { value = value; chosen = false }

-- the given values that are marked as primary, each distinct value once
abbrev pub given_primary : Attribute → List Row → List Row
given_primary a given = with_values a [] (filter is_primary given)

-- the `Position` of a value; it is chosen as primary if the value is the same as one of the values `primary`
abbrev pub marked : Attribute → List Row → Row → Position
marked a primary value = record { value = value; chosen = list_any (λ g. is_same_value a g value) primary }

-- the `Position` of a value that the step made; it is chosen as primary if its `primary` is true
abbrev pub made : Row → Position
made value = record { value = value; chosen = is_primary value }

-- the value of a unit with these fields
abbrev pub value_of : AttributeUnit → List Field → Row
value_of u fs = record { unit = u; fields = fs }

-- whether an atom is one of these texts, compared case-sensitively
abbrev pub is_text_of : Option Atom → List (List ℕ) → Bool
is_text_of (Some (Text t)) texts = list_any (bytes_eq t) texts
is_text_of _ texts = false

-- whether the sub-attribute `value` of a value is one of these texts, compared case-sensitively
abbrev pub is_listed : List (List ℕ) → Row → Bool
is_listed texts value = is_text_of (atom_in (leaf_at value.unit.attribute Value) value.fields) texts

-- whether any value matches the filter
abbrev pub is_any_match : Tree → List Row → Bool
is_any_match t values = list_any (truth_in_value t) values

-- the `Position` of the value with the given fields set in it; it is chosen as primary if the given fields
-- set `primary` to true
abbrev pub set_over : List Field → Row → Position
set_over given value = record { value = row_over given value; chosen = is_primary (value_of value.unit given) }

-- the `Position` of the value; if the value matches the filter, the given fields are set in it
abbrev pub set_at_match : Tree → List Field → Row → Position
set_at_match t given value = if truth_in_value t value then set_over given value else kept value

-- `given` if `value` matches the filter, otherwise `value`
abbrev pub replaced_at_match : Tree → Row → Row → Row
replaced_at_match t given value = if truth_in_value t value then given else value

-- the value; if it matches the filter, its sub-attribute is removed
abbrev pub cleared_at_match : Tree → SubAttribute → Row → Row
cleared_at_match t b value = if truth_in_value t value then row_without (leaf_at value.unit.attribute b) value else value

-- the unchanged values, followed by a new value with these fields
abbrev pub with_made : AttributeUnit → List Row → List Field → List Position
with_made u values fs = map kept values ++ made (value_of u fs) ∷ []

-- if a value matches, the values with the given fields set in each match; otherwise the values followed by a
-- new value with the fields that the filter describes, overridden by the given fields; None if no value
-- matches and the filter describes no value
abbrev pub added_at_matches : AttributeUnit → Tree → List Field → List Row → Option (List Position)
added_at_matches u t given values =
    if is_any_match t values then Some (map (set_at_match t given) values)
    else option_map (λ fs. with_made u values (over given (over fs []))) (described u.attribute t)

-- the values with the given fields set in each value, or one new value with the given fields if there are no
-- values
abbrev pub set_everywhere : AttributeUnit → List Field → List Row → List Position
set_everywhere u given [] = made (value_of u given) ∷ []
set_everywhere u given (value ∷ values) = map (set_over given) (value ∷ values)
