-- The cells in the JSON of a resource, found by look-ups in order of place.
use Rattle.std.specs.Prelude.{ℕ, Bool, ◌+◌, Option, None, Some, option_map, option_and_then, List, [], ◌∷◌, ◌++◌}
use Rattle.std.specs.List.{flat_map}
use Rattle.serde_json.specs.Data.{Data, Items, no_items, item}
use Rattle.serde_json.specs.Find.{get, as_str, as_bool, as_array}
use Rattle.scim_text.specs.Moments.{moment_of}
use Rattle.scim_schema.specs.declared.Kind.{Kind}
use Rattle.scim_schema.specs.declared.Attribute.{Attribute}
use Rattle.scim_schema.specs.declared.Attribute.TheVariants as attribute
use Rattle.scim_schema.specs.declared.SubAttribute.{SubAttribute}
use Rattle.scim_schema.specs.declared.SubAttribute.TheVariants as sub_attribute
use Rattle.scim_schema.specs.declared.Leaf.{Leaf}
use Rattle.scim_schema.specs.declared.schema_urns.Schema.{Schema}
use Rattle.scim_schema.specs.declared.characteristics.AttributeType.{AttributeType}
use Rattle.scim_schema.specs.declared.characteristics.AttributeType.TheVariants.{String, Boolean, DateTime, Reference, Binary, Complex as ComplexType}
use Rattle.scim_schema.specs.Names.{attribute_name, sub_attribute_name}
use Rattle.scim_schema.specs.Schemas.{urn, extension_of}
use Rattle.scim_schema.specs.Table.{attributes}
use Rattle.scim_schema.specs.Characteristics.{characteristics_of}
use Rattle.scim_schema.specs.Units.{simple, leaf_at}
use Rattle.scim_cell.specs.declared.atoms.Atom.{Atom}
use Rattle.scim_cell.specs.declared.atoms.Atom.TheVariants.{Text, Truth, Moment}
use Rattle.scim_cell.specs.Place.{place_at}
use Rattle.scim_value.specs.Resource.{location}
use Rattle.scim_cell.specs.Content.{Entry}
use Rattle.scim_cell.specs.Place.{sub_attributes_by_place}
use Rattle.scim_value.specs.Listing.{cell_with}
use Rattle.scim_schema.specs.declared.json_keys.JsonShape.{JsonShape}
use Rattle.scim_schema.specs.declared.json_keys.JsonShape.TheVariants.{Simple, Complex, MultiValued}
use Rattle.scim_schema.specs.JsonKeys.{shape_of}

-- the atom of a type that a JSON value represents, or None if the value doesn't have the type; `truth` is the
-- value if it is a Boolean, `text` is the value if it is a string
abbrev pub atom_from : AttributeType → Option Bool → Option (List ℕ) → Option Atom
atom_from Boolean truth text = option_map Truth truth
atom_from DateTime truth text = option_map Moment (option_and_then moment_of text)
atom_from String truth text = option_map Text text
atom_from Reference truth text = option_map Text text
atom_from Binary truth text = option_map Text text
atom_from ComplexType truth text = None

-- the atom of a type that a JSON value represents, or None if the value doesn't have the type (RFC 7643
-- section 2.3)
abbrev pub atom_of : AttributeType → Data → Option Atom
atom_of t d = atom_from t (as_bool d) (as_str d)

-- the entries that `f` returns for a value, or no entries if there is no value
abbrev pub if_there : {A : Type 0} → (A → List Entry) → Option A → List Entry
if_there f None = []
if_there f (Some a) = f a

-- the cell of a leaf with this JSON value, or no cell if the value doesn't have the type of the leaf
abbrev pub found_value : Kind → Leaf → ℕ → Data → List Entry
found_value kind l k d = cell_with l k (atom_of (characteristics_of kind l).attribute_type d)

-- the cell of a sub-attribute in an object
abbrev pub found_sub_attribute : Kind → Attribute → ℕ → Data → SubAttribute → List Entry
found_sub_attribute kind a k d b = if_there (found_value kind (leaf_at a b) k) (get (sub_attribute_name b) d)

-- the cells of an object, which is one value of a complex attribute
abbrev pub found_object : Kind → Attribute → ℕ → Data → List Entry
found_object kind a k d = flat_map (found_sub_attribute kind a k d) (sub_attributes_by_place a)

-- the cells of an array of objects, of which the first is at position k
abbrev pub found_items : Kind → Attribute → ℕ → Items → List Entry
found_items kind a k no_items = []
found_items kind a k (item d ds) = found_object kind a k d ++ found_items kind a (k + 1) ds

-- the cells of an attribute whose JSON value has this shape
abbrev pub found_shaped : Kind → Attribute → JsonShape → Data → List Entry
found_shaped kind a Simple d = found_value kind (simple a) 0 d
found_shaped kind a Complex d = found_object kind a 0 d
found_shaped kind a MultiValued d = if_there (found_items kind a 0) (as_array d)

-- the object that has the attributes of a schema: the outermost object for a core schema (None), and the
-- object under the schema's URN for an extension (RFC 7643 section 3.3)
abbrev pub object_with : Option Schema → Data → Option Data
object_with None d = Some d
object_with (Some s) d = get (urn s) d

-- the JSON value of an attribute, or None if the attribute is missing
abbrev pub attribute_in : Attribute → Data → Option Data
attribute_in a d = option_and_then (get (attribute_name a)) (object_with (extension_of a) d)

-- the cells of an attribute in the object of a resource
abbrev pub found_attribute : Kind → Data → Attribute → List Entry
found_attribute kind d a = if_there (found_shaped kind a (shape_of a)) (attribute_in a d)

-- the cells of all attributes of a kind in the object of a resource
unfoldable pub found_cells : Kind → Data → List Entry
found_cells kind d = flat_map (found_attribute kind d) (attributes kind)

-- the cells in the object of a resource, then the cell of `meta.location`, which isn't stored but computed
abbrev pub cells_below : List ℕ → Kind → List ℕ → Data → List Entry
cells_below base kind id d = found_cells kind d ++ (place_at (leaf_at attribute.Meta sub_attribute.Location) 0, Text (location base kind id)) ∷ []

-- the text of `id`, or None if `id` is missing or isn't a string
abbrev pub id_in : Data → Option (List ℕ)
id_in d = option_and_then as_str (attribute_in attribute.Id d)

-- the text of `meta.resourceType`, or None if it is missing or isn't a string
abbrev pub resource_type_in : Data → Option (List ℕ)
resource_type_in d = option_and_then as_str (option_and_then (get (sub_attribute_name sub_attribute.ResourceType)) (attribute_in attribute.Meta d))
