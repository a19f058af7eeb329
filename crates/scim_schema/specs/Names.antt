-- The printed names of kinds, operations, attributes and sub-attributes.
use Rattle.std.specs.Prelude.{ℕ, Bool, List, [], ◌∷◌, codes}
use Rattle.std.specs.Str.{str_eq_ignore_ascii_case}
use Rattle.scim_schema.specs.declared.Kind.{Kind}
use Rattle.scim_schema.specs.declared.Kind.TheVariants.{User, Group}
use Rattle.scim_schema.specs.declared.Op.{Op}
use Rattle.scim_schema.specs.declared.Op.TheVariants.{Read, Create, Modify, Delete}
use Rattle.scim_schema.specs.declared.Attribute.{Attribute}
use Rattle.scim_schema.specs.declared.Attribute.TheVariants.{Id, ExternalId, UserName, Name, DisplayName, NickName, ProfileUrl, Title, UserType, PreferredLanguage, Locale, Timezone, Active, Password, Emails, PhoneNumbers, Ims, Photos, Addresses, Groups, Entitlements, Roles, X509Certificates, EmployeeNumber, CostCenter, Organization, Division, Department, Manager, Badge, Note, DoorCode, Members, Meta}
use Rattle.scim_schema.specs.declared.SubAttribute.{SubAttribute}
use Rattle.scim_schema.specs.declared.SubAttribute.TheVariants.{Formatted, FamilyName, GivenName, MiddleName, HonorificPrefix, HonorificSuffix, Value, Reference, Display, TypeName, Primary, StreetAddress, Locality, Region, PostalCode, Country, DisplayName as SubDisplayName, ResourceType, Created, LastModified, Location}

-- whether two names are equal without regard to ASCII case (RFC 7643 section 2.1)
abbrev pub is_same_name : List ℕ → List ℕ → Bool
is_same_name a b = str_eq_ignore_ascii_case a b

-- all kinds of resources
abbrev pub kinds : List Kind
kinds = User ∷ Group ∷ []

-- all operations
abbrev pub operations : List Op
operations = Read ∷ Create ∷ Modify ∷ Delete ∷ []

-- the sub-attributes of all attributes
unfoldable pub all_sub_attributes : List SubAttribute
all_sub_attributes = Formatted ∷ FamilyName ∷ GivenName ∷ MiddleName ∷ HonorificPrefix ∷ HonorificSuffix ∷ Value ∷ Reference ∷ Display ∷ TypeName ∷ Primary ∷ StreetAddress ∷ Locality ∷ Region ∷ PostalCode ∷ Country ∷ SubDisplayName ∷ ResourceType ∷ Created ∷ LastModified ∷ Location ∷ []

-- the name of a resource type (RFC 7643 section 6)
abbrev pub kind_name : Kind → List ℕ
kind_name User = codes "User"
kind_name Group = codes "Group"

-- the path of the resources of a kind below the base URL (RFC 7644 section 3.2)
abbrev pub endpoint : Kind → List ℕ
endpoint User = codes "/Users"
endpoint Group = codes "/Groups"

-- the name of an operation
abbrev pub op_name : Op → List ℕ
op_name Read = codes "read"
op_name Create = codes "create"
op_name Modify = codes "modify"
op_name Delete = codes "delete"

-- the name of an attribute (RFC 7643 sections 3.1, 4.1, 4.2 and 4.3, and the site extension)
abbrev pub attribute_name : Attribute → List ℕ
attribute_name Id = codes "id"
attribute_name ExternalId = codes "externalId"
attribute_name UserName = codes "userName"
attribute_name Name = codes "name"
attribute_name DisplayName = codes "displayName"
attribute_name NickName = codes "nickName"
attribute_name ProfileUrl = codes "profileUrl"
attribute_name Title = codes "title"
attribute_name UserType = codes "userType"
attribute_name PreferredLanguage = codes "preferredLanguage"
attribute_name Locale = codes "locale"
attribute_name Timezone = codes "timezone"
attribute_name Active = codes "active"
attribute_name Password = codes "password"
attribute_name Emails = codes "emails"
attribute_name PhoneNumbers = codes "phoneNumbers"
attribute_name Ims = codes "ims"
attribute_name Photos = codes "photos"
attribute_name Addresses = codes "addresses"
attribute_name Groups = codes "groups"
attribute_name Entitlements = codes "entitlements"
attribute_name Roles = codes "roles"
attribute_name X509Certificates = codes "x509Certificates"
attribute_name EmployeeNumber = codes "employeeNumber"
attribute_name CostCenter = codes "costCenter"
attribute_name Organization = codes "organization"
attribute_name Division = codes "division"
attribute_name Department = codes "department"
attribute_name Manager = codes "manager"
attribute_name Badge = codes "badge"
attribute_name Note = codes "note"
attribute_name DoorCode = codes "doorCode"
attribute_name Members = codes "members"
attribute_name Meta = codes "meta"

-- the name of a sub-attribute (RFC 7643 sections 2.4, 3.1, 4.1.1, 4.1.2, 4.2 and 4.3)
abbrev pub sub_attribute_name : SubAttribute → List ℕ
sub_attribute_name Formatted = codes "formatted"
sub_attribute_name FamilyName = codes "familyName"
sub_attribute_name GivenName = codes "givenName"
sub_attribute_name MiddleName = codes "middleName"
sub_attribute_name HonorificPrefix = codes "honorificPrefix"
sub_attribute_name HonorificSuffix = codes "honorificSuffix"
sub_attribute_name Value = codes "value"
sub_attribute_name Reference = codes "$ref"
sub_attribute_name Display = codes "display"
sub_attribute_name TypeName = codes "type"
sub_attribute_name Primary = codes "primary"
sub_attribute_name StreetAddress = codes "streetAddress"
sub_attribute_name Locality = codes "locality"
sub_attribute_name Region = codes "region"
sub_attribute_name PostalCode = codes "postalCode"
sub_attribute_name Country = codes "country"
sub_attribute_name SubDisplayName = codes "displayName"
sub_attribute_name ResourceType = codes "resourceType"
sub_attribute_name Created = codes "created"
sub_attribute_name LastModified = codes "lastModified"
sub_attribute_name Location = codes "location"
