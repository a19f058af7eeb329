-- The keys of the JSON objects of a resource, in byte order.
use Rattle.std.specs.Prelude.{◌≡◌, Bool, true, false, ◌&&◌, Some, is_none, ℕ, List, [], ◌∷◌, codes, filter, if◌then◌else◌}
use Rattle.std.specs.List.{list_all, list_any}
use Rattle.std.specs.Option.{option_eq}
use Rattle.std.specs.Ordering.{nat_cmp, is_lt}
use Rattle.std.specs.Cmp.Lexicographic.{slice_cmp}
use denote.Enum.Bare.{sameb}
use Rattle.scim_schema.specs.declared.Kind.{Kind}
use Rattle.scim_schema.specs.declared.Kind.TheVariants.{User, Group}
use Rattle.scim_schema.specs.declared.Attribute.{Attribute}
use Rattle.scim_schema.specs.declared.Attribute.TheVariants.{Id, ExternalId, UserName, Name, DisplayName, NickName, ProfileUrl, Title, UserType, PreferredLanguage, Locale, Timezone, Active, Password, Emails, PhoneNumbers, Ims, Photos, Addresses, Groups, Entitlements, Roles, X509Certificates, EmployeeNumber, CostCenter, Organization, Division, Department, Manager, Badge, Note, DoorCode, Members, Meta}
use Rattle.scim_schema.specs.declared.SubAttribute.{SubAttribute}
use Rattle.scim_schema.specs.declared.SubAttribute.TheVariants.{Formatted, FamilyName, GivenName, MiddleName, HonorificPrefix, HonorificSuffix, Value, Reference, Display, TypeName, Primary, StreetAddress, Locality, Region, PostalCode, Country, DisplayName as SubDisplayName, ResourceType, Created, LastModified, Location}
use Rattle.scim_schema.specs.declared.schema_urns.Schema.{Schema}
use Rattle.scim_schema.specs.declared.schema_urns.Schema.TheVariants.{EnterpriseUser, SiteUser}
use Rattle.scim_schema.specs.declared.characteristics.Characteristics.{Characteristics}
use Rattle.scim_schema.specs.declared.characteristics.AttributeType.TheVariants.{Complex as ComplexType}
use Rattle.scim_schema.specs.contracts.characteristics.AttributeType.{the_type as the_attribute_type}
use Rattle.scim_schema.specs.Names.{attribute_name, sub_attribute_name}
use Rattle.scim_schema.specs.contracts.Attribute.{the_type as the_attribute}
use Rattle.scim_schema.specs.contracts.SubAttribute.{the_type as the_sub_attribute}
use Rattle.scim_schema.specs.contracts.schema_urns.Schema.{the_type as the_schema}
use Rattle.scim_schema.specs.Schemas.{urn, extension_of}
use Rattle.scim_schema.specs.Table.{attributes, sub_attributes}
use Rattle.scim_schema.specs.Characteristics.{attribute_characteristics}
use Rattle.scim_schema.specs.declared.json_keys.JsonForm.{JsonForm}
use Rattle.scim_schema.specs.declared.json_keys.JsonForm.TheVariants.{Shown, Stored}
use Rattle.scim_schema.specs.declared.json_keys.JsonKey.{JsonKey}
use Rattle.scim_schema.specs.declared.json_keys.JsonKey.TheVariants.{Of, Schemas, Extension}
use Rattle.scim_schema.specs.declared.json_keys.JsonShape.{JsonShape}
use Rattle.scim_schema.specs.declared.json_keys.JsonShape.TheVariants.{Simple, Complex, MultiValued}

-- the name of the attribute that lists the schemas of a resource (RFC 7643 section 3)
unfoldable pub schemas_name : List ℕ
schemas_name = codes "schemas"

-- the text of a key: the name of an attribute, `schemas`, or the URN of an extension (RFC 7643 section 3.3)
abbrev pub key_text : JsonKey → List ℕ
key_text (Of a) = attribute_name a
key_text Schemas = schemas_name
key_text (Extension s) = urn s

-- the keys of the outermost object of a resource of a kind, in the JSON text for clients, in byte order
abbrev pub shown_keys : Kind → List JsonKey
shown_keys User =
    Of Active ∷ Of Addresses ∷ Of DisplayName ∷ Of Emails ∷ Of Entitlements ∷ Of ExternalId ∷ Of Groups ∷ Of Id ∷ Of Ims ∷ Of Locale ∷ Of Meta ∷ Of Name ∷ Of NickName ∷ Of Password ∷ Of PhoneNumbers ∷ Of Photos ∷ Of PreferredLanguage ∷ Of ProfileUrl ∷ Of Roles ∷ Schemas ∷ Of Timezone ∷ Of Title ∷ Extension SiteUser ∷ Extension EnterpriseUser ∷ Of UserName ∷ Of UserType ∷ Of X509Certificates ∷ []
shown_keys Group = Of DisplayName ∷ Of ExternalId ∷ Of Id ∷ Of Members ∷ Of Meta ∷ Schemas ∷ []

-- whether the JSON text for the store may have a key: not `schemas` or `groups`, which the server computes
abbrev pub is_stored_key : JsonKey → Bool
is_stored_key Schemas = false
is_stored_key (Of Groups) = false
is_stored_key _ = true

-- the keys that the outermost JSON object of a resource of a kind may have, in byte order
unfoldable pub keys : JsonForm → Kind → List JsonKey
keys Shown kind = shown_keys kind
keys Stored kind = filter is_stored_key (shown_keys kind)

-- the attributes of an extension, in byte order of their names (RFC 7643 section 4.3, and the site extension)
unfoldable pub extension_keys : Schema → List Attribute
extension_keys EnterpriseUser = CostCenter ∷ Department ∷ Division ∷ EmployeeNumber ∷ Manager ∷ Organization ∷ []
extension_keys SiteUser = Badge ∷ DoorCode ∷ Note ∷ []
extension_keys _ = []

-- the sub-attributes of most multi-valued attributes, in byte order of their names (RFC 7643 section 2.4)
abbrev pub ordered_standard_sub_attributes : List SubAttribute
ordered_standard_sub_attributes = Display ∷ Primary ∷ TypeName ∷ Value ∷ []

-- the sub-attributes of `groups` and `members`, in byte order of their names
abbrev pub ordered_linked_sub_attributes : List SubAttribute
ordered_linked_sub_attributes = Reference ∷ Display ∷ TypeName ∷ Value ∷ []

-- the sub-attributes of `meta`, in byte order of their names; `location` isn't stored, because the server
-- computes it from the kind and the id
abbrev pub ordered_meta_sub_attributes : JsonForm → List SubAttribute
ordered_meta_sub_attributes Shown = Created ∷ LastModified ∷ Location ∷ ResourceType ∷ []
ordered_meta_sub_attributes Stored = Created ∷ LastModified ∷ ResourceType ∷ []

-- the sub-attributes of an attribute, in byte order of their names (RFC 7643 sections 3.1, 4.1.1, 4.1.2, 4.2,
-- 4.3)
unfoldable pub ordered_sub_attributes : JsonForm → Attribute → List SubAttribute
ordered_sub_attributes form Name = FamilyName ∷ Formatted ∷ GivenName ∷ HonorificPrefix ∷ HonorificSuffix ∷ MiddleName ∷ []
ordered_sub_attributes form Emails = ordered_standard_sub_attributes
ordered_sub_attributes form PhoneNumbers = ordered_standard_sub_attributes
ordered_sub_attributes form Ims = ordered_standard_sub_attributes
ordered_sub_attributes form Photos = ordered_standard_sub_attributes
ordered_sub_attributes form Addresses = Country ∷ Formatted ∷ Locality ∷ PostalCode ∷ Primary ∷ Region ∷ StreetAddress ∷ TypeName ∷ []
ordered_sub_attributes form Groups = ordered_linked_sub_attributes
ordered_sub_attributes form Entitlements = ordered_standard_sub_attributes
ordered_sub_attributes form Roles = ordered_standard_sub_attributes
ordered_sub_attributes form X509Certificates = ordered_standard_sub_attributes
ordered_sub_attributes form Manager = Reference ∷ SubDisplayName ∷ Value ∷ []
ordered_sub_attributes form Members = ordered_linked_sub_attributes
ordered_sub_attributes form Meta = ordered_meta_sub_attributes form
ordered_sub_attributes form _ = []

-- whether the JSON value of an attribute with these characteristics is simple, an object or an array
abbrev pub shape_with : Characteristics → JsonShape
shape_with c = if c.multi_valued then MultiValued else (if sameb the_attribute_type c.attribute_type ComplexType then Complex else Simple)

-- whether the JSON value of an attribute is simple, an object or an array of objects
unfoldable pub shape_of : Attribute → JsonShape
shape_of a = shape_with (attribute_characteristics User a)

-- whether the text of each key comes before the texts of all later keys, in byte order
abbrev pub is_ascending : {K : Type 0} → (K → List ℕ) → List K → Bool
is_ascending text [] = true
is_ascending text (k ∷ ks) = list_all (λ l. is_lt (slice_cmp nat_cmp (text k) (text l))) ks && is_ascending text ks

-- the keys are in byte order of their texts, without duplicates
abbrev pub Ascends : {K : Type 0} → (K → List ℕ) → List K → Type 0
Ascends text ks = is_ascending text ks ≡ true

-- the keys of the outermost object are in byte order, without duplicates
abbrev pub PartKeysAscend : Type 0
PartKeysAscend = (form : JsonForm) (kind : Kind) → Ascends key_text (keys form kind)

-- the attributes of each extension are in byte order of their names, without duplicates
abbrev pub ExtensionKeysAscend : Type 0
ExtensionKeysAscend = (schema : Schema) → Ascends attribute_name (extension_keys schema)

-- the sub-attributes of each attribute are in byte order of their names, without duplicates
abbrev pub SubAttributesAscend : Type 0
SubAttributesAscend = (form : JsonForm) (a : Attribute) → Ascends sub_attribute_name (ordered_sub_attributes form a)

-- whether the outermost object contains an attribute under this key: the key is the attribute's name, or the
-- URN of the extension that defines the attribute
abbrev pub stands_under : Attribute → JsonKey → Bool
stands_under a (Of b) = is_none (extension_of a) && sameb the_attribute a b
stands_under a Schemas = false
stands_under a (Extension s) = option_eq (sameb the_schema) (extension_of a) (Some s) && list_any (sameb the_attribute a) (extension_keys s)

-- each attribute of a kind has a key in the JSON text for clients
abbrev pub AttributesHaveKeys : Type 0
AttributesHaveKeys = (kind : Kind) → list_all (λ a. list_any (stands_under a) (keys Shown kind)) (attributes kind) ≡ true

-- in the JSON text for clients, each sub-attribute is a key of its attribute's object
abbrev pub SubAttributesHaveKeys : Type 0
SubAttributesHaveKeys = (a : Attribute) → list_all (λ b. list_any (sameb the_sub_attribute b) (ordered_sub_attributes Shown a)) (sub_attributes a) ≡ true
