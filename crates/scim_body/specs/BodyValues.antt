-- The values read from a body (RFC 7643 sections 2.3 to 2.5); None means a refused value.
use Rattle.std.specs.Prelude.{ℕ, List, [], ◌∷◌, ◌++◌, ◌||◌, Bool, true, false, Option, Some, None, option_map, option_and_then, length, nat_lt, nat_le, if◌then◌else◌, codes}
use Rattle.std.specs.List.{list_any, count_by}
use denote.Enum.Bare.{sameb}
use Rattle.serde_json.specs.Data.{Data, null, boolean, number, string, array, object, no_items, item, Members}
use Rattle.serde_json.specs.Find.{as_array, as_object}
use Rattle.scim_schema.specs.declared.limits.TheConstants.{LONGEST_VALUE, MOST_VALUES}
use Rattle.scim_schema.specs.declared.Kind.{Kind}
use Rattle.scim_schema.specs.declared.Attribute.{Attribute}
use Rattle.scim_schema.specs.declared.SubAttribute.{SubAttribute}
use Rattle.scim_schema.specs.declared.SubAttribute.TheVariants as sub_attribute
use Rattle.scim_schema.specs.declared.characteristics.AttributeType.{AttributeType}
use Rattle.scim_schema.specs.declared.characteristics.AttributeType.TheVariants.{Boolean}
use Rattle.scim_schema.specs.contracts.SubAttribute.{the_type as the_sub_attribute}
use Rattle.scim_schema.specs.contracts.characteristics.AttributeType.{the_type as the_attribute_type}
use Rattle.scim_schema.specs.Names.{sub_attribute_name}
use Rattle.scim_schema.specs.Table.{sub_attributes}
use Rattle.scim_schema.specs.Characteristics.{characteristics_of}
use Rattle.scim_schema.specs.Units.{leaf_at, whole}
use Rattle.scim_schema.specs.Mutability.{is_read_only}
use Rattle.scim_text.specs.Names.{is_same_name}
use Rattle.scim_cell.specs.declared.atoms.Atom.{Atom}
use Rattle.scim_cell.specs.declared.atoms.Atom.TheVariants.{Text, Truth, Moment}
use Rattle.scim_cell.specs.declared.rows.Field.{Field}
use Rattle.scim_cell.specs.Place.{sub_attributes_by_place}
use Rattle.scim_cell.specs.Rows.{Row, is_primary}
use Rattle.scim_cell.specs.SameValues.{is_nameless, with_values}
use Rattle.scim_json.specs.Found.{atom_of}
use Rattle.scim_body.specs.BodyNames.{value_named, listed}

-- ---- one value

-- the results of reading each element, in order; None if one is refused
abbrev pub collected : {K X : Type 0} → (K → Option (List X)) → List K → Option (List X)
collected read [] = Some []
collected read (k ∷ ks) = option_and_then (λ xs. option_map (λ ys. xs ++ ys) (collected read ks)) (read k)

-- whether a value counts as absent: null and `[]` do (RFC 7643 section 2.5)
abbrev pub is_absent : Data → Bool
is_absent null = true
is_absent (array no_items) = true
is_absent (array (item d ds)) = false
is_absent (boolean b) = false
is_absent (number n) = false
is_absent (string s) = false
is_absent (object ms) = false

-- the value, unless it counts as absent
abbrev pub present : Option Data → Option Data
present None = None
present (Some d) = if is_absent d then None else Some d

-- the value under a name in an object, unless it counts as absent
abbrev pub given_named : List ℕ → Members → Option Data
given_named name ms = present (value_named name ms)

-- the result of reading a value, or an empty list if there is none
abbrev pub if_given : {X : Type 0} → (Data → Option (List X)) → Option Data → Option (List X)
if_given read None = Some []
if_given read (Some d) = read d

-- the boolean that a text names, in any case
abbrev pub truth_of_text : List ℕ → Option Bool
truth_of_text s = if is_same_name s (codes "true") then Some true else (if is_same_name s (codes "false") then Some false else None)

-- the boolean that a value is, or that it names as a text; None for any other value
abbrev pub truth_of : Data → Option Bool
truth_of (boolean b) = Some b
truth_of (string s) = truth_of_text s
truth_of null = None
truth_of (number n) = None
truth_of (array ds) = None
truth_of (object ms) = None

-- whether an atom is within the limit: a text has at most 65,536 bytes
abbrev pub is_short : Atom → Bool
is_short (Text t) = nat_le (length t) LONGEST_VALUE
is_short (Truth b) = true
is_short (Moment m) = true

-- the atom, if it is within the limit for texts
abbrev pub short : Atom → Option Atom
short atom = if is_short atom then Some atom else None

-- the value as an atom of the type; None if it has another type or is over the limit
abbrev pub given_atom : AttributeType → Data → Option Atom
given_atom t d = if sameb the_attribute_type t Boolean then option_map Truth (truth_of d) else option_and_then short (atom_of t d)

-- ---- complex values

-- the field of a sub-attribute with this value; None if the value is refused
abbrev pub field_with : Kind → Attribute → SubAttribute → Data → Option (List Field)
field_with kind a b d =
    option_map (λ atom. record { leaf = leaf_at a b; atom = atom } ∷ []) (given_atom (characteristics_of kind (leaf_at a b)).attribute_type d)

-- the field of a sub-attribute, if the object has a value for it; no field if the sub-attribute is readOnly
-- (RFC 7643 section 2.2), None if the value is refused
abbrev pub field_in : Kind → Attribute → Members → SubAttribute → Option (List Field)
field_in kind a ms b =
    if is_read_only kind (leaf_at a b) then Some [] else if_given (field_with kind a b) (given_named (sub_attribute_name b) ms)

-- the fields in an object, in the order in which their cells are stored; unknown keys are ignored; None if a
-- value is refused
abbrev pub fields_in : Kind → Attribute → Members → Option (List Field)
fields_in kind a ms = collected (field_in kind a ms) (sub_attributes_by_place a)

-- whether the attribute has a sub-attribute `value` (RFC 7643 section 2.4)
abbrev pub has_value : Attribute → Bool
has_value a = list_any (λ b. sameb the_sub_attribute b sub_attribute.Value) (sub_attributes a)

-- the field `value`, read from a value that isn't an object; None if the attribute has no sub-attribute
-- `value`, or if the value is refused
abbrev pub value_alone : Kind → Attribute → Data → Option (List Field)
value_alone kind a d = if has_value a then field_with kind a sub_attribute.Value d else None

-- the fields of a value of a complex attribute; the members are None if the value isn't an object
abbrev pub fields_with : Kind → Attribute → Data → Option Members → Option (List Field)
fields_with kind a d None = value_alone kind a d
fields_with kind a d (Some ms) = fields_in kind a ms

-- the fields of a value of a complex attribute (RFC 7643 section 2.3.8)
abbrev pub fields_of : Kind → Attribute → Data → Option (List Field)
fields_of kind a d = fields_with kind a d (as_object d)

-- ---- values of a multi-valued attribute (RFC 7643 section 2.4)

-- the value with these fields; no value if there are no fields
abbrev pub value_with : Attribute → List Field → List Row
value_with a [] = []
value_with a (f ∷ fs) = record { unit = whole a; fields = f ∷ fs } ∷ []

-- the value read from an item of a list; no value if the item counts as absent
abbrev pub value_of : Kind → Attribute → Data → Option (List Row)
value_of kind a d = if is_absent d then Some [] else option_map (value_with a) (fields_of kind a d)

-- whether the values are refused: two are primary, there are over 10,000, or a group member has no `value`
abbrev pub are_refused : Attribute → List Row → Bool
are_refused a rs = nat_lt 1 (count_by is_primary rs) || nat_lt MOST_VALUES (length rs) || list_any (is_nameless a) rs

-- the values, unless they are refused
abbrev pub checked : Attribute → List Row → Option (List Row)
checked a rs = if are_refused a rs then None else Some rs

-- the values of a multi-valued attribute, from a list or a single value; repeated values are kept
abbrev pub listed_values : Kind → Attribute → Data → Option (List Row)
listed_values kind a d = collected (value_of kind a) (listed (as_array d) d)

-- the values of a multi-valued attribute, without repeated values; None if they are refused
abbrev pub values_of : Kind → Attribute → Data → Option (List Row)
values_of kind a d = option_and_then (λ rs. checked a (with_values a [] rs)) (listed_values kind a d)
