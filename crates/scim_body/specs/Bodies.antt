-- The draft of a resource that is read from the body of a request (RFC 7644 sections 3.3 and 3.5.1).
use Rattle.std.specs.Prelude.{◌≡◌, List, [], ◌∷◌, ◌&&◌, Option, Some, None, Result, Ok, Err, option_map, option_and_then, map, if◌then◌else◌}
use Rattle.std.specs.List.{flat_map}
use denote.Enum.Bare.{sameb}
use Rattle.serde_json.specs.Data.{Data, Members, no_members}
use Rattle.serde_json.specs.Find.{as_object}
use Rattle.scim_schema.specs.declared.Kind.{Kind}
use Rattle.scim_schema.specs.declared.Attribute.{Attribute}
use Rattle.scim_schema.specs.declared.Attribute.TheVariants.{UserName}
use Rattle.scim_schema.specs.declared.Unit.{Unit as AttributeUnit}
use Rattle.scim_schema.specs.declared.schema_urns.Schema.{Schema}
use Rattle.scim_schema.specs.declared.json_keys.JsonShape.{JsonShape}
use Rattle.scim_schema.specs.declared.json_keys.JsonShape.TheVariants.{Simple, Complex, MultiValued}
use Rattle.scim_schema.specs.contracts.Attribute.{the_type as the_attribute}
use Rattle.scim_schema.specs.Names.{attribute_name}
use Rattle.scim_schema.specs.Schemas.{urn, extension_of}
use Rattle.scim_schema.specs.Table.{attributes}
use Rattle.scim_schema.specs.Characteristics.{characteristics_of}
use Rattle.scim_schema.specs.Units.{simple, unit_of, whole}
use Rattle.scim_schema.specs.JsonKeys.{shape_of}
use Rattle.scim_schema.specs.Mutability.{is_read_only, is_dropped}
use Rattle.scim_cell.specs.declared.atoms.Atom.{Atom}
use Rattle.scim_cell.specs.declared.rows.Field.{Field}
use Rattle.scim_cell.specs.Rows.{Row}
use Rattle.scim_body.specs.declared.drafts.UseFor.{UseFor}
use Rattle.scim_body.specs.declared.drafts.UseFor.TheVariants.{Creating, Replacing}
use Rattle.scim_body.specs.declared.bodies.BodyFault.{BodyFault}
use Rattle.scim_body.specs.declared.bodies.BodyFault.TheVariants.{Syntax, Value}
use Rattle.scim_body.specs.BodyNames.{body_clashes}
use Rattle.scim_body.specs.BodyValues.{collected, if_given, given_named, given_atom, fields_of, values_of}
use Rattle.scim_body.specs.Drafts.{Draft, is_empty, lacks_required}

-- a unit for which a body has a value, with the values to store
pub record Given : Type 0 where
  pub unit : AttributeUnit
  pub values : List Row

-- the unit of a single-valued field, without values if the field is dropped, as a password is
abbrev pub field_given : Field → Given
field_given f =
    record { unit = unit_of f.leaf; values = if is_dropped f.leaf then [] else record { unit = unit_of f.leaf; fields = f ∷ [] } ∷ [] }

-- the unit of a simple attribute with this atom; None for an empty `userName`, which is refused (RFC 7643
-- section 4.1.1)
abbrev pub named_given : Attribute → Atom → Option (List Given)
named_given a atom =
    if sameb the_attribute a UserName && is_empty atom then None else Some (field_given (record { leaf = simple a; atom = atom }) ∷ [])

-- the unit read from a value of a simple attribute; None if the value is refused
abbrev pub simple_given : Kind → Attribute → Data → Option (List Given)
simple_given kind a d = option_and_then (named_given a) (given_atom (characteristics_of kind (simple a)).attribute_type d)

-- the units read from a value of a complex attribute, one for each of its fields; None if the value is
-- refused
abbrev pub complex_given : Kind → Attribute → Data → Option (List Given)
complex_given kind a d = option_map (map field_given) (fields_of kind a d)

-- the unit of a multi-valued attribute, if it has values
abbrev pub whole_given : Attribute → List Row → List Given
whole_given a [] = []
whole_given a (r ∷ rs) = record { unit = whole a; values = r ∷ rs } ∷ []

-- the units read from a value of an attribute with this shape; None if the value is refused
abbrev pub shaped_given : Kind → Attribute → JsonShape → Data → Option (List Given)
shaped_given kind a Simple d = simple_given kind a d
shaped_given kind a Complex d = complex_given kind a d
shaped_given kind a MultiValued d = option_map (whole_given a) (values_of kind a d)

-- the units of an attribute for which an object has values; no units if the attribute is readOnly (RFC 7643
-- section 2.2), None if a value is refused
abbrev pub attribute_given : Kind → Attribute → Members → Option (List Given)
attribute_given kind a ms =
    if is_read_only kind (simple a) then Some [] else if_given (shaped_given kind a (shape_of a)) (given_named (attribute_name a) ms)

-- the members of an extension's value; no members if there is no value, None if the value isn't an object
abbrev pub extension_members : Option Data → Option Members
extension_members None = Some no_members
extension_members (Some d) = as_object d

-- the members of the object that holds a schema's attributes: the body itself for the core schema (None),
-- else the extension's object (RFC 7643 section 3.3)
abbrev pub schema_members : Option Schema → Members → Option Members
schema_members None ms = Some ms
schema_members (Some s) ms = extension_members (given_named (urn s) ms)

-- the units of an attribute for which a body has values; None if a value is refused
abbrev pub given_of : Kind → Members → Attribute → Option (List Given)
given_of kind ms a = option_and_then (attribute_given kind a) (schema_members (extension_of a) ms)

-- the units for which a body has values, with these values, in the order of the attribute table; readOnly
-- attributes are ignored; None if a value is refused
unfoldable pub all_given : Kind → Members → Option (List Given)
all_given kind ms = collected (given_of kind ms) (attributes kind)

-- the outcome of reading a body: the body is malformed, it has a wrong value, or it is read into a draft
pub data Body : Type 0 where
  malformed : Body
  wrong : Body
  drafted : Draft → Body

-- the draft of the given units
abbrev pub draft_of : Kind → UseFor → List Given → Draft
draft_of kind use_for gs = record { kind = kind; use_for = use_for; given = map (λ g. g.unit) gs; rows = flat_map (λ g. g.values) gs }

-- the outcome for a draft: wrong if the draft is for Creating and lacks a required attribute, else the draft
abbrev pub judged : UseFor → Draft → Body
judged Creating d = if lacks_required d.kind d.rows then wrong else drafted d
judged Replacing d = drafted d

-- the outcome for the units in a body; None means that a value was refused
abbrev pub body_with : Kind → UseFor → Option (List Given) → Body
body_with kind use_for None = wrong
body_with kind use_for (Some gs) = judged use_for (draft_of kind use_for gs)

-- the outcome for a body with these members, or for None if the body isn't an object; clashing keys are
-- found before wrong values
abbrev pub body_in : Kind → UseFor → Option Members → Body
body_in kind use_for None = malformed
body_in kind use_for (Some ms) = if body_clashes kind ms then malformed else body_with kind use_for (all_given kind ms)

-- the outcome for a body with this JSON value, or for None if the body isn't JSON
abbrev pub body_of : Kind → UseFor → Option Data → Body
body_of kind use_for d = body_in kind use_for (option_and_then as_object d)

-- the result of reading a body with this JSON value is the draft or the fault that `body_of` specifies
abbrev pub GivesDraft : Kind → UseFor → Option Data → Result Draft BodyFault → Type 0
GivesDraft kind use_for d (Ok draft) = body_of kind use_for d ≡ drafted draft
GivesDraft kind use_for d (Err Syntax) = body_of kind use_for d ≡ malformed
GivesDraft kind use_for d (Err Value) = body_of kind use_for d ≡ wrong
