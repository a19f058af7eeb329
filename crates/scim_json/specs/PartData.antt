-- The JSON of a part (RFC 7643 sections 2.3, 3 and 8).
use Rattle.std.specs.Prelude.{ℕ, List, [], ◌∷◌, Bool, Option, Some, None, option_map, if◌then◌else◌, filter}
use Rattle.std.specs.List.{list_any}
use Rattle.std.specs.Option.{option_eq}
use denote.Enum.Bare.{sameb}
use Rattle.serde_json.specs.Data.{Data, string, boolean, array, object, Items, no_items, item, Members, no_members, member}
use Rattle.scim_text.specs.Moments.{moment_text}
use Rattle.scim_schema.specs.declared.Attribute.{Attribute}
use Rattle.scim_schema.specs.declared.SubAttribute.{SubAttribute}
use Rattle.scim_schema.specs.declared.schema_urns.Schema.{Schema}
use Rattle.scim_schema.specs.contracts.schema_urns.Schema.{the_type as the_schema}
use Rattle.scim_schema.specs.Names.{attribute_name, sub_attribute_name}
use Rattle.scim_schema.specs.Schemas.{urn, core_schema, extensions, extension_of}
use Rattle.scim_cell.specs.declared.atoms.Atom.{Atom}
use Rattle.scim_cell.specs.declared.atoms.Atom.TheVariants.{Text, Truth, Moment}
use Rattle.scim_cell.specs.declared.rows.Field.{Field}
use Rattle.scim_cell.specs.Content.{Content}
use Rattle.scim_schema.specs.Units.{simple, leaf_at, whole}
use Rattle.scim_cell.specs.Rows.{Row, rows, values, atom_in, cell_at}
use Rattle.scim_schema.specs.declared.json_keys.JsonForm.{JsonForm}
use Rattle.scim_schema.specs.declared.json_keys.JsonForm.TheVariants.{Shown, Stored}
use Rattle.scim_schema.specs.declared.json_keys.JsonKey.{JsonKey}
use Rattle.scim_schema.specs.declared.json_keys.JsonKey.TheVariants.{Of, Schemas, Extension}
use Rattle.scim_schema.specs.declared.json_keys.JsonShape.{JsonShape}
use Rattle.scim_schema.specs.declared.json_keys.JsonShape.TheVariants.{Simple, Complex, MultiValued}
use Rattle.scim_schema.specs.JsonKeys.{key_text, keys, extension_keys, ordered_sub_attributes, shape_of}

-- ---- objects and arrays

-- the members `ms`, with a member for the key `k` added at the start if there is a value
abbrev pub with_member : List ℕ → Option Data → Members → Members
with_member k None ms = ms
with_member k (Some d) ms = member k d ms

-- a member for each key that has a value, in order
abbrev pub members_where : {K : Type 0} → (K → List ℕ) → (K → Option Data) → List K → Members
members_where name value [] = no_members
members_where name value (k ∷ ks) = with_member (name k) (value k) (members_where name value ks)

-- an object with these members, or None if there are none
abbrev pub object_of : Members → Option Data
object_of no_members = None
object_of (member k d ms) = Some (object (member k d ms))

-- the JSON items of a list of values
abbrev pub items_of : {V : Type 0} → (V → Data) → List V → Items
items_of value [] = no_items
items_of value (v ∷ vs) = item (value v) (items_of value vs)

-- an array with these items, or None if there are none (RFC 7643 section 2.5)
abbrev pub array_of : Items → Option Data
array_of no_items = None
array_of (item d ds) = Some (array (item d ds))

-- ---- values

-- the JSON value of an atom (RFC 7643 section 2.3)
abbrev pub atom_data : Atom → Data
atom_data (Text t) = string t
atom_data (Truth b) = boolean b
atom_data (Moment m) = string (moment_text m)

-- the JSON value of a sub-attribute in one value of a multi-valued attribute, or None
abbrev pub field_data : Attribute → List Field → SubAttribute → Option Data
field_data a fs b = option_map atom_data (atom_in (leaf_at a b) fs)

-- the JSON object of one value of a multi-valued attribute (RFC 7643 section 2.4)
abbrev pub value_data : JsonForm → Attribute → Row → Data
value_data form a r = object (members_where sub_attribute_name (field_data a r.fields) (ordered_sub_attributes form a))

-- the JSON value of a simple attribute, or None
abbrev pub simple_data : List Row → Attribute → Option Data
simple_data rs a = option_map atom_data (cell_at (simple a) 0 rs)

-- the JSON value of a sub-attribute of a complex attribute, or None
abbrev pub sub_data : List Row → Attribute → SubAttribute → Option Data
sub_data rs a b = option_map atom_data (cell_at (leaf_at a b) 0 rs)

-- the JSON object of a complex attribute, or None (RFC 7643 section 2.3.8)
abbrev pub complex_data : JsonForm → List Row → Attribute → Option Data
complex_data form rs a = object_of (members_where sub_attribute_name (sub_data rs a) (ordered_sub_attributes form a))

-- the JSON array of a multi-valued attribute, or None
abbrev pub values_data : JsonForm → List Row → Attribute → Option Data
values_data form rs a = array_of (items_of (value_data form a) (values (whole a) rs))

-- the JSON value of an attribute whose value has this shape, or None if it has no cells
abbrev pub shaped_data : JsonForm → JsonShape → List Row → Attribute → Option Data
shaped_data form Simple rs a = simple_data rs a
shaped_data form Complex rs a = complex_data form rs a
shaped_data form MultiValued rs a = values_data form rs a

-- the JSON value of an attribute, or None if it has no cells
abbrev pub attribute_data : JsonForm → List Row → Attribute → Option Data
attribute_data form rs a = shaped_data form (shape_of a) rs a

-- ---- schemas

-- whether one of the rows belongs to an attribute of the extension
unfoldable pub has_extension : List Row → Schema → Bool
has_extension rs s = list_any (λ r. option_eq (sameb the_schema) (extension_of r.unit.attribute) (Some s)) rs

-- the JSON of a schema: its URN (RFC 7643 section 8.7)
abbrev pub urn_data : Schema → Data
urn_data s = string (urn s)

-- the value of `schemas`: the URN of the core schema, and the URNs of the extensions that have cells (RFC
-- 7643 section 3)
abbrev pub schemas_data : List Row → Schema → List Schema → Data
schemas_data rs core extended = array (item (urn_data core) (items_of urn_data (filter (has_extension rs) extended)))

-- the JSON object of an extension, or None if it has no cells (RFC 7643 section 3.3)
unfoldable pub extension_data : JsonForm → List Row → Schema → Option Data
extension_data form rs s =
    if has_extension rs s then Some (object (members_where attribute_name (attribute_data form rs) (extension_keys s))) else None

-- ---- parts

-- the JSON value for a key in the outermost object of a part, or None
abbrev pub key_data : JsonForm → Content → JsonKey → Option Data
key_data form c (Of a) = attribute_data form (rows c) a
key_data form c Schemas = Some (schemas_data (rows c) (core_schema c.kind) (extensions c.kind))
key_data form c (Extension s) = extension_data form (rows c) s

-- the JSON of a part, for clients or for the store
unfoldable pub data_of : JsonForm → Content → Data
data_of form c = object (members_where key_text (key_data form c) (keys form c.kind))

-- the JSON of a part for clients: the cells and `schemas`, with the keys of each object in byte order
unfoldable pub part_data : Content → Data
part_data c = data_of Shown c

-- the stored JSON of a part, without `schemas`, `groups` and `meta.location`
unfoldable pub stored_data : Content → Data
stored_data c = data_of Stored c
