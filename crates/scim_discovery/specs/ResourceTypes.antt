-- Resource types (RFC 7643 section 6).
use Rattle.std.specs.Prelude.{false, List, [], ◌∷◌, codes, map, Option, None, Some}
use Rattle.serde_json.specs.Data.{Data, boolean, string, array, object, no_items, item, Members, no_members, member}
use Rattle.serde_json.specs.View.{items_of}
use Rattle.scim_schema.specs.declared.Kind.{Kind}
use Rattle.scim_schema.specs.declared.schema_urns.Schema.{Schema}
use Rattle.scim_schema.specs.Names.{kind_name, endpoint}
use Rattle.scim_schema.specs.Schemas.{urn, core_schema, extensions}
use Rattle.scim_discovery.specs.Members.{with_member}

-- the description of a schema extension; extensions are never required
abbrev pub extension_data : Schema → Data
extension_data s = object (member (codes "required") (boolean false) (member (codes "schema") (string (urn s)) no_members))

-- the descriptions of schema extensions; `None` if there are none
abbrev pub extensions_data : List Schema → Option Data
extensions_data [] = None
extensions_data (s ∷ ss) = Some (array (items_of (map extension_data (s ∷ ss))))

-- the members of a resource type: the endpoint of its resources, its id and name, the core schema and the
-- schema extensions of its resources, and the schema of resource types
abbrev pub members_for : Kind → Option Data → Members
members_for kind extended =
    member (codes "endpoint") (string (endpoint kind))
    (member (codes "id") (string (kind_name kind))
    (member (codes "name") (string (kind_name kind))
    (member (codes "schema") (string (urn (core_schema kind)))
    (with_member (codes "schemaExtensions") extended
    (member (codes "schemas") (array (item (string (codes "urn:ietf:params:scim:schemas:core:2.0:ResourceType")) no_items)) no_members)))))

-- the resource type of a kind
unfoldable pub resource_type_data : Kind → Data
resource_type_data kind = object (members_for kind (extensions_data (extensions kind)))
