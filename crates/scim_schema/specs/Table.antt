-- The attributes, sub-attributes and leaves of each kind. Most other lists keep the order of this file.
use Rattle.std.specs.Prelude.{List, [], ◌∷◌, ◌++◌, map, None, Some, Contains}
use Rattle.std.specs.List.{flat_map}
use Rattle.scim_schema.specs.declared.Kind.{Kind}
use Rattle.scim_schema.specs.declared.Kind.TheVariants.{User, Group}
use Rattle.scim_schema.specs.declared.Leaf.{Leaf}
use Rattle.scim_schema.specs.declared.Attribute.{Attribute}
use Rattle.scim_schema.specs.declared.Attribute.TheVariants.{Id, ExternalId, UserName, Name, DisplayName, NickName, ProfileUrl, Title, UserType, PreferredLanguage, Locale, Timezone, Active, Password, Emails, PhoneNumbers, Ims, Photos, Addresses, Groups, Entitlements, Roles, X509Certificates, EmployeeNumber, CostCenter, Organization, Division, Department, Manager, Badge, Note, DoorCode, Members, Meta}
use Rattle.scim_schema.specs.declared.SubAttribute.{SubAttribute}
use Rattle.scim_schema.specs.declared.SubAttribute.TheVariants.{Formatted, FamilyName, GivenName, MiddleName, HonorificPrefix, HonorificSuffix, Value, Reference, Display, TypeName, Primary, StreetAddress, Locality, Region, PostalCode, Country, DisplayName as SubDisplayName, ResourceType, Created, LastModified, Location}

-- the attributes of every resource, except `meta` (RFC 7643 section 3.1)
abbrev pub common_attributes : List Attribute
common_attributes = Id ∷ ExternalId ∷ []

-- the single-valued attributes of a user (RFC 7643 section 4.1)
abbrev pub single_user_attributes : List Attribute
single_user_attributes = UserName ∷ Name ∷ DisplayName ∷ NickName ∷ ProfileUrl ∷ Title ∷ UserType ∷ PreferredLanguage ∷ Locale ∷ Timezone ∷ Active ∷ Password ∷ []

-- the multi-valued attributes of a user (RFC 7643 section 4.1)
abbrev pub multi_valued_user_attributes : List Attribute
multi_valued_user_attributes = Emails ∷ PhoneNumbers ∷ Ims ∷ Photos ∷ Addresses ∷ Groups ∷ Entitlements ∷ Roles ∷ X509Certificates ∷ []

-- the attributes of a group (RFC 7643 section 4.2)
abbrev pub group_attributes : List Attribute
group_attributes = DisplayName ∷ Members ∷ []

-- the attributes of the enterprise extension of a user (RFC 7643 section 4.3)
abbrev pub enterprise_attributes : List Attribute
enterprise_attributes = EmployeeNumber ∷ CostCenter ∷ Organization ∷ Division ∷ Department ∷ Manager ∷ []

-- the attributes of the site extension of a user
abbrev pub site_attributes : List Attribute
site_attributes = Badge ∷ Note ∷ DoorCode ∷ []

-- all attributes of a kind
abbrev pub attributes : Kind → List Attribute
attributes User = common_attributes ++ single_user_attributes ++ multi_valued_user_attributes ++ enterprise_attributes ++ site_attributes ++ Meta ∷ []
attributes Group = common_attributes ++ group_attributes ++ Meta ∷ []

-- the sub-attributes of most multi-valued attributes (RFC 7643 section 2.4)
abbrev pub standard_sub_attributes : List SubAttribute
standard_sub_attributes = Value ∷ Display ∷ TypeName ∷ Primary ∷ []

-- the sub-attributes of an attribute; empty for a simple attribute (RFC 7643 sections 3.1, 4.1.1, 4.1.2, 4.2
-- and 4.3)
abbrev pub sub_attributes : Attribute → List SubAttribute
sub_attributes Name = Formatted ∷ FamilyName ∷ GivenName ∷ MiddleName ∷ HonorificPrefix ∷ HonorificSuffix ∷ []
sub_attributes Emails = standard_sub_attributes
sub_attributes PhoneNumbers = standard_sub_attributes
sub_attributes Ims = standard_sub_attributes
sub_attributes Photos = standard_sub_attributes
sub_attributes Addresses = Formatted ∷ StreetAddress ∷ Locality ∷ Region ∷ PostalCode ∷ Country ∷ TypeName ∷ Primary ∷ []
sub_attributes Groups = Value ∷ Reference ∷ Display ∷ TypeName ∷ []
sub_attributes Entitlements = standard_sub_attributes
sub_attributes Roles = standard_sub_attributes
sub_attributes X509Certificates = standard_sub_attributes
sub_attributes Manager = Value ∷ Reference ∷ SubDisplayName ∷ []
sub_attributes Members = Value ∷ Reference ∷ TypeName ∷ Display ∷ []
sub_attributes Meta = ResourceType ∷ Created ∷ LastModified ∷ Location ∷ []
sub_attributes _ = []

-- the leaves of an attribute with these sub-attributes: one for each sub-attribute, or the attribute itself
-- if it has no sub-attributes
abbrev pub leaves_with : Attribute → List SubAttribute → List Leaf
leaves_with a [] = record { attribute = a; sub_attribute = None } ∷ []
leaves_with a (s ∷ ss) = map (λ b. record { attribute = a; sub_attribute = Some b }) (s ∷ ss)

-- the leaves of a kind, by attribute and then by sub-attribute; other comments call this order leaf order
abbrev pub leaves : Kind → List Leaf
leaves kind = flat_map (λ a. leaves_with a (sub_attributes a)) (attributes kind)

-- the kind has the leaf
abbrev pub HasLeaf : Kind → Leaf → Type 0
HasLeaf kind leaf = Contains (leaves kind) leaf
