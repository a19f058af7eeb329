-- Look-ups of kinds, operations, attributes, sub-attributes and schemas by name.
use Rattle.std.specs.Prelude.{ℕ, Bool, List, ◌&&◌, Option, find, nat_eq}
use Rattle.std.specs.Cmp.Lexicographic.{pointwise}
use denote.Enum.Bare.{sameb}
use Rattle.scim_schema.specs.declared.Kind.{Kind}
use Rattle.scim_schema.specs.declared.Op.{Op}
use Rattle.scim_schema.specs.declared.Attribute.{Attribute}
use Rattle.scim_schema.specs.declared.SubAttribute.{SubAttribute}
use Rattle.scim_schema.specs.declared.schema_urns.Schema.{Schema}
use Rattle.scim_schema.specs.contracts.schema_urns.Schema.{the_type as the_schema}
use Rattle.scim_schema.specs.Names.{is_same_name, kinds, kind_name, operations, op_name, attribute_name, sub_attribute_name}
use Rattle.scim_schema.specs.Table.{attributes, sub_attributes}
use Rattle.scim_schema.specs.Schemas.{urn, schemas, schema_of}

-- whether two texts are equal, byte by byte
abbrev pub is_same_text : List ℕ → List ℕ → Bool
is_same_text = pointwise nat_eq

-- the kind with this name, or None; the name is case-sensitive
abbrev pub kind_named : List ℕ → Option Kind
kind_named name = find (λ k. is_same_text name (kind_name k)) kinds

-- the operation with this name, or None; the name is case-sensitive
abbrev pub operation_named : List ℕ → Option Op
operation_named name = find (λ o. is_same_text name (op_name o)) operations

-- the attribute of a kind with this name in any ASCII case, or None; the name of an extension attribute is
-- given without the URN
abbrev pub attribute_named : Kind → List ℕ → Option Attribute
attribute_named kind name = find (λ a. is_same_name (attribute_name a) name) (attributes kind)

-- the attribute of a kind and a schema with this name in any ASCII case, or None (RFC 7644 section 3.10)
abbrev pub attribute_named_in : Kind → Schema → List ℕ → Option Attribute
attribute_named_in kind schema name = find (λ a. sameb the_schema (schema_of kind a) schema && is_same_name (attribute_name a) name) (attributes kind)

-- the sub-attribute of an attribute with this name in any ASCII case, or None
abbrev pub sub_attribute_named : Attribute → List ℕ → Option SubAttribute
sub_attribute_named a name = find (λ b. is_same_name (sub_attribute_name b) name) (sub_attributes a)

-- the schema with this URN in any ASCII case, or None
abbrev pub schema_named : List ℕ → Option Schema
schema_named name = find (λ s. is_same_name (urn s) name) schemas
