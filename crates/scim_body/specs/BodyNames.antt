-- The keys of a body, which name attributes in any case (RFC 7643 section 2.1), and when two clash.
use Rattle.std.specs.Prelude.{ℕ, List, [], ◌∷◌, ◌&&◌, ◌||◌, Bool, false, not, Option, None, Some, length, nat_lt, if◌then◌else◌}
use Rattle.std.specs.List.{list_any}
use Rattle.std.specs.Option.{option_eq}
use denote.Enum.Bare.{sameb}
use Rattle.serde_json.specs.Data.{Data, Items, no_items, item, Members, no_members, member}
use Rattle.serde_json.specs.Find.{as_array, as_object}
use Rattle.scim_schema.specs.declared.Kind.{Kind}
use Rattle.scim_schema.specs.declared.Attribute.{Attribute}
use Rattle.scim_schema.specs.declared.schema_urns.Schema.{Schema}
use Rattle.scim_schema.specs.contracts.schema_urns.Schema.{the_type as the_schema}
use Rattle.scim_schema.specs.Names.{attribute_name, sub_attribute_name}
use Rattle.scim_schema.specs.Schemas.{urn, extensions, extension_of}
use Rattle.scim_schema.specs.Table.{attributes, sub_attributes}
use Rattle.scim_schema.specs.Characteristics.{is_multi_valued}
use Rattle.scim_schema.specs.Units.{simple}
use Rattle.scim_schema.specs.Mutability.{is_read_only}
use Rattle.scim_text.specs.Names.{is_same_name}

-- the values of the members whose key is the name in any case, in order
abbrev pub values_named : List ℕ → Members → List Data
values_named name no_members = []
values_named name (member k d ms) = if is_same_name name k then d ∷ values_named name ms else values_named name ms

-- the first of the values, if there is one
abbrev pub first : List Data → Option Data
first [] = None
first (d ∷ ds) = Some d

-- the value under a name; the first one if several keys match the name
abbrev pub value_named : List ℕ → Members → Option Data
value_named name ms = first (values_named name ms)

-- whether more than one key matches the name
abbrev pub is_twice : List ℕ → Members → Bool
is_twice name ms = nat_lt 1 (length (values_named name ms))

-- whether there is a value and it passes the test
abbrev pub is_there_and : {A : Type 0} → (A → Bool) → Option A → Bool
is_there_and test None = false
is_there_and test (Some a) = test a

-- the items of an array, as a list
abbrev pub items_list : Items → List Data
items_list no_items = []
items_list (item d ds) = d ∷ items_list ds

-- the values of a multi-valued attribute: the items of an array, or the value itself if it isn't an array
abbrev pub listed : Option Items → Data → List Data
listed None d = d ∷ []
listed (Some ds) d = items_list ds

-- whether two keys of an object name the same sub-attribute of the attribute
abbrev pub sub_attributes_clash : Attribute → Members → Bool
sub_attributes_clash a ms = list_any (λ b. is_twice (sub_attribute_name b) ms) (sub_attributes a)

-- whether a value is an object in which two keys name the same sub-attribute of the attribute
abbrev pub value_clashes : Attribute → Data → Bool
value_clashes a d = is_there_and (sub_attributes_clash a) (as_object d)

-- whether two keys of one object in the value of the attribute name the same sub-attribute; for a
-- multi-valued attribute, every item is checked, including items that count as absent
abbrev pub values_clash : Attribute → Data → Bool
values_clash a d = if is_multi_valued a then list_any (value_clashes a) (listed (as_array d) d) else value_clashes a d

-- whether two keys name the attribute or, unless it is readOnly, two keys in its value name the same
-- sub-attribute
unfoldable pub attribute_clashes : Kind → Members → Attribute → Bool
attribute_clashes kind ms a = is_twice (attribute_name a) ms || (not (is_read_only kind (simple a)) && is_there_and (values_clash a) (value_named (attribute_name a) ms))

-- whether keys clash for any attribute of a schema; None means the core schema
abbrev pub schema_clashes : Kind → Option Schema → Members → Bool
schema_clashes kind s ms = list_any (λ a. option_eq (sameb the_schema) (extension_of a) s && attribute_clashes kind ms a) (attributes kind)

-- whether two keys are the extension's URN, or keys clash in the extension's object (RFC 7643 section 3.3)
abbrev pub extension_clashes : Kind → Members → Schema → Bool
extension_clashes kind ms s = is_twice (urn s) ms || is_there_and (λ d. is_there_and (schema_clashes kind (Some s)) (as_object d)) (value_named (urn s) ms)

-- whether two keys clash in a body: two keys name one attribute, one extension, or one sub-attribute in a
-- value of an attribute that isn't readOnly
unfoldable pub body_clashes : Kind → Members → Bool
body_clashes kind ms = schema_clashes kind None ms || list_any (extension_clashes kind ms) (extensions kind)
