-- How the code selects the attributes of a schema.
use Rattle.std.specs.Prelude.{Bool, true, false, not, ◌&&◌}
use Rattle.scim_schema.specs.declared.Kind.{Kind}
use Rattle.scim_schema.specs.declared.Attribute.{Attribute}
use Rattle.scim_schema.specs.declared.Attribute.TheVariants.{Id, ExternalId, Meta}
use Rattle.scim_schema.specs.declared.schema_urns.Schema.{Schema}
use Rattle.scim_schema.specs.Schemas.{schema_of, is_same_schema}

-- whether the attribute is common to all resources, whatever their schemas (RFC 7643 section 3.1)
abbrev pub is_common : Attribute → Bool
is_common Id = true
is_common ExternalId = true
is_common Meta = true
is_common _ = false

-- whether a schema lists an attribute of a kind
abbrev pub is_listed : Kind → Schema → Attribute → Bool
is_listed kind schema a = not (is_common a) && is_same_schema (schema_of kind a) schema
