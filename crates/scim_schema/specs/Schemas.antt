-- The schemas and their attributes (RFC 7643 sections 3 and 8.7, and the site extension).
use Rattle.std.specs.Prelude.{ℕ, Bool, List, [], ◌∷◌, codes, Option, None, Some, unwrap_or}
use Rattle.scim_schema.specs.declared.Kind.{Kind}
use Rattle.scim_schema.specs.declared.Kind.TheVariants.{User, Group}
use Rattle.scim_schema.specs.declared.Attribute.{Attribute}
use Rattle.scim_schema.specs.declared.Attribute.TheVariants.{EmployeeNumber, CostCenter, Organization, Division, Department, Manager, Badge, Note, DoorCode}
use Rattle.scim_schema.specs.declared.schema_urns.Schema.{Schema}
use Rattle.scim_schema.specs.declared.schema_urns.Schema.TheVariants.{User as UserSchema, Group as GroupSchema, EnterpriseUser, SiteUser}
use Rattle.scim_schema.specs.contracts.schema_urns.Schema.{the_type as the_schema}
use denote.Enum.Bare.{sameb}

-- the URN of a schema (RFC 7643 section 8.7, and the site extension)
abbrev pub urn : Schema → List ℕ
urn UserSchema = codes "urn:ietf:params:scim:schemas:core:2.0:User"
urn GroupSchema = codes "urn:ietf:params:scim:schemas:core:2.0:Group"
urn EnterpriseUser = codes "urn:ietf:params:scim:schemas:extension:enterprise:2.0:User"
urn SiteUser = codes "urn:example:scim:schemas:extension:site:1.0:User"

-- all schemas of resources
abbrev pub schemas : List Schema
schemas = UserSchema ∷ GroupSchema ∷ EnterpriseUser ∷ SiteUser ∷ []

-- the core schema of a kind; every resource of the kind has this schema
abbrev pub core_schema : Kind → Schema
core_schema User = UserSchema
core_schema Group = GroupSchema

-- the extensions that a resource of a kind may have, in the order in which `schemas` lists them (RFC 7643
-- section 3.3)
abbrev pub extensions : Kind → List Schema
extensions User = EnterpriseUser ∷ SiteUser ∷ []
extensions Group = []

-- the extension that defines an attribute, or None if a core schema defines it (RFC 7643 section
-- 4.3, and the site extension)
abbrev pub extension_of : Attribute → Option Schema
extension_of EmployeeNumber = Some EnterpriseUser
extension_of CostCenter = Some EnterpriseUser
extension_of Organization = Some EnterpriseUser
extension_of Division = Some EnterpriseUser
extension_of Department = Some EnterpriseUser
extension_of Manager = Some EnterpriseUser
extension_of Badge = Some SiteUser
extension_of Note = Some SiteUser
extension_of DoorCode = Some SiteUser
extension_of _ = None

-- the schema that defines an attribute of a kind; `id`, `externalId` and `meta` belong to the core schema
abbrev pub schema_of : Kind → Attribute → Schema
schema_of kind a = unwrap_or (extension_of a) (core_schema kind)

-- whether two schemas are equal
abbrev pub is_same_schema : Schema → Schema → Bool
is_same_schema = sameb the_schema
