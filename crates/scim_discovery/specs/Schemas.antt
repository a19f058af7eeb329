-- Schemas (RFC 7643 section 7).
use Rattle.std.specs.Prelude.{ℕ, List, ◌++◌, codes, map}
use Rattle.serde_json.specs.Data.{Data, string, array, object, no_items, item, no_members, member}
use Rattle.serde_json.specs.View.{items_of}
use Rattle.scim_schema.specs.declared.Kind.{Kind}
use Rattle.scim_schema.specs.declared.Kind.TheVariants.{User, Group}
use Rattle.scim_schema.specs.declared.Attribute.{Attribute}
use Rattle.scim_schema.specs.declared.schema_urns.Schema.{Schema}
use Rattle.scim_schema.specs.declared.schema_urns.Schema.TheVariants.{User as UserSchema, Group as GroupSchema, EnterpriseUser, SiteUser}
use Rattle.scim_schema.specs.Schemas.{urn}
use Rattle.scim_schema.specs.Table.{single_user_attributes, multi_valued_user_attributes, group_attributes, enterprise_attributes, site_attributes}
use Rattle.scim_discovery.specs.Attributes.{attribute_data}

-- the kind whose resources have a schema
abbrev pub kind_with : Schema → Kind
kind_with UserSchema = User
kind_with GroupSchema = Group
kind_with EnterpriseUser = User
kind_with SiteUser = User

-- the name of a schema (RFC 7643 sections 4.1, 4.2 and 4.3, and the site extension)
abbrev pub schema_name : Schema → List ℕ
schema_name UserSchema = codes "User"
schema_name GroupSchema = codes "Group"
schema_name EnterpriseUser = codes "EnterpriseUser"
schema_name SiteUser = codes "Site"

-- the attributes that a schema lists, without those that are common to all resources (RFC 7643 section 3.1)
abbrev pub attributes_in : Schema → List Attribute
attributes_in UserSchema = single_user_attributes ++ multi_valued_user_attributes
attributes_in GroupSchema = group_attributes
attributes_in EnterpriseUser = enterprise_attributes
attributes_in SiteUser = site_attributes

-- the description of a schema, with its attributes
unfoldable pub schema_data : Schema → Data
schema_data s = object
    (member (codes "attributes") (array (items_of (map (attribute_data (kind_with s)) (attributes_in s))))
    (member (codes "id") (string (urn s))
    (member (codes "name") (string (schema_name s))
    (member (codes "schemas") (array (item (string (codes "urn:ietf:params:scim:schemas:core:2.0:Schema")) no_items)) no_members))))
