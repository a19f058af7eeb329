-- The characteristics of each attribute and sub-attribute (RFC 7643 sections 2.2 and 7).
use Rattle.std.specs.Prelude.{Bool, true, false, Option, None, Some}
use Rattle.scim_schema.specs.declared.Kind.{Kind}
use Rattle.scim_schema.specs.declared.Kind.TheVariants.{User, Group}
use Rattle.scim_schema.specs.declared.Leaf.{Leaf}
use Rattle.scim_schema.specs.declared.Attribute.{Attribute}
use Rattle.scim_schema.specs.declared.Attribute.TheVariants.{Id, ExternalId, UserName, Name, DisplayName, ProfileUrl, Active, Password, Emails, PhoneNumbers, Ims, Photos, Addresses, Groups, Entitlements, Roles, X509Certificates, Manager, Badge, Note, DoorCode, Members, Meta}
use Rattle.scim_schema.specs.declared.SubAttribute.{SubAttribute}
use Rattle.scim_schema.specs.declared.SubAttribute.TheVariants.{Value, Reference, Primary, DisplayName as SubDisplayName, ResourceType, Created, LastModified, Location}
use Rattle.scim_schema.specs.declared.characteristics.Characteristics.{Characteristics}
use Rattle.scim_schema.specs.declared.characteristics.AttributeType.TheVariants.{String, Boolean, DateTime, Reference as ReferenceType, Binary, Complex}
use Rattle.scim_schema.specs.declared.characteristics.Mutability.TheVariants.{ReadOnly, ReadWrite, Immutable, WriteOnly}
use Rattle.scim_schema.specs.declared.characteristics.Returned.TheVariants.{Always, Never, Default, Request}
use Rattle.scim_schema.specs.declared.characteristics.Uniqueness.TheVariants.{NotUnique, Server}

-- the default characteristics (RFC 7643 section 2.2)
abbrev pub plain : Characteristics
plain = record { attribute_type = String; multi_valued = false; required = false; case_exact = false; mutability = ReadWrite; returned = Default; uniqueness = NotUnique }

-- these characteristics with mutability `readOnly`
abbrev pub read_only : Characteristics → Characteristics
read_only c = record c { mutability = ReadOnly }

-- these characteristics with mutability `immutable`
abbrev pub immutable : Characteristics → Characteristics
immutable c = record c { mutability = Immutable }

-- these characteristics with `required` set
abbrev pub required : Characteristics → Characteristics
required c = record c { required = true }

-- the characteristics of a complex attribute with one value (RFC 7643 section 2.3.8)
abbrev pub complex : Characteristics
complex = record plain { attribute_type = Complex }

-- the characteristics of a complex attribute with a list of values (RFC 7643 section 2.4)
abbrev pub multi_valued : Characteristics
multi_valued = record complex { multi_valued = true }

-- the characteristics of a string whose case matters (RFC 7643 section 2.2)
abbrev pub case_exact : Characteristics
case_exact = record plain { case_exact = true }

-- the characteristics of a URI (RFC 7643 section 2.3.7)
abbrev pub reference : Characteristics
reference = record case_exact { attribute_type = ReferenceType }

-- the characteristics of base64 text (RFC 7643 section 2.3.6)
abbrev pub binary : Characteristics
binary = record case_exact { attribute_type = Binary }

-- the characteristics of a boolean (RFC 7643 section 2.3.2)
abbrev pub boolean : Characteristics
boolean = record plain { attribute_type = Boolean }

-- the characteristics of a date and time (RFC 7643 section 2.3.5)
abbrev pub date_time : Characteristics
date_time = record plain { attribute_type = DateTime }

-- the characteristics of a string that no client may read, and whose case matters (RFC 7643 section 7)
abbrev pub write_only : Characteristics
write_only = record case_exact { mutability = WriteOnly; returned = Never }

-- the characteristics of an attribute of a kind (RFC 7643 sections 3.1, 4.1, 4.2, 4.3 and 7, and the site
-- extension)
abbrev pub attribute_characteristics : Kind → Attribute → Characteristics
attribute_characteristics _ Id = record case_exact { mutability = ReadOnly; returned = Always }
attribute_characteristics _ ExternalId = case_exact
attribute_characteristics _ UserName = record plain { required = true; uniqueness = Server }
attribute_characteristics Group DisplayName = required plain
attribute_characteristics _ ProfileUrl = reference
attribute_characteristics _ Active = boolean
attribute_characteristics _ Password = write_only
attribute_characteristics _ Name = complex
attribute_characteristics _ Manager = complex
attribute_characteristics _ Badge = record case_exact { uniqueness = Server }
attribute_characteristics _ Note = record plain { returned = Request }
attribute_characteristics _ DoorCode = write_only
attribute_characteristics _ Meta = read_only complex
attribute_characteristics _ Groups = read_only multi_valued
attribute_characteristics _ Emails = multi_valued
attribute_characteristics _ PhoneNumbers = multi_valued
attribute_characteristics _ Ims = multi_valued
attribute_characteristics _ Photos = multi_valued
attribute_characteristics _ Addresses = multi_valued
attribute_characteristics _ Entitlements = multi_valued
attribute_characteristics _ Roles = multi_valued
attribute_characteristics _ X509Certificates = multi_valued
attribute_characteristics _ Members = multi_valued
attribute_characteristics _ _ = plain

-- the characteristics of a sub-attribute of most attributes (RFC 7643 section 2.4)
abbrev pub common_sub_attribute : SubAttribute → Characteristics
common_sub_attribute Primary = boolean
common_sub_attribute _ = plain

-- the characteristics of a sub-attribute of a link to a resource: `value` is the id of the resource, and
-- `$ref` is the location
abbrev pub linked_sub_attribute : SubAttribute → Characteristics
linked_sub_attribute Value = case_exact
linked_sub_attribute Reference = reference
linked_sub_attribute _ = plain

-- the characteristics of a sub-attribute of `photos` (RFC 7643 section 4.1.2)
abbrev pub photo_sub_attribute : SubAttribute → Characteristics
photo_sub_attribute Value = reference
photo_sub_attribute b = common_sub_attribute b

-- the characteristics of a sub-attribute of `x509Certificates` (RFC 7643 section 4.1.2)
abbrev pub certificate_sub_attribute : SubAttribute → Characteristics
certificate_sub_attribute Value = binary
certificate_sub_attribute b = common_sub_attribute b

-- the characteristics of a sub-attribute of `manager` (RFC 7643 section 4.3)
abbrev pub manager_sub_attribute : SubAttribute → Characteristics
manager_sub_attribute SubDisplayName = read_only plain
manager_sub_attribute b = linked_sub_attribute b

-- the characteristics of a sub-attribute of `members` (RFC 7643 section 4.2)
abbrev pub member_sub_attribute : SubAttribute → Characteristics
member_sub_attribute Value = required (immutable case_exact)
member_sub_attribute b = immutable (linked_sub_attribute b)

-- the characteristics of a sub-attribute of `meta` (RFC 7643 section 3.1)
abbrev pub meta_sub_attribute : SubAttribute → Characteristics
meta_sub_attribute ResourceType = read_only case_exact
meta_sub_attribute Created = read_only date_time
meta_sub_attribute LastModified = read_only date_time
meta_sub_attribute Location = read_only reference
meta_sub_attribute _ = read_only plain

-- the characteristics of a sub-attribute of an attribute
abbrev pub sub_attribute_characteristics : Attribute → SubAttribute → Characteristics
sub_attribute_characteristics Photos b = photo_sub_attribute b
sub_attribute_characteristics X509Certificates b = certificate_sub_attribute b
sub_attribute_characteristics Groups b = read_only (linked_sub_attribute b)
sub_attribute_characteristics Manager b = manager_sub_attribute b
sub_attribute_characteristics Members b = member_sub_attribute b
sub_attribute_characteristics Meta b = meta_sub_attribute b
sub_attribute_characteristics _ b = common_sub_attribute b

-- the characteristics of an attribute of a kind, or of its sub-attribute if one is given
abbrev pub characteristics_at : Kind → Attribute → Option SubAttribute → Characteristics
characteristics_at kind a None = attribute_characteristics kind a
characteristics_at kind a (Some b) = sub_attribute_characteristics a b

-- the characteristics of a leaf's sub-attribute, or of its attribute if the leaf has no sub-attribute
abbrev pub characteristics_of : Kind → Leaf → Characteristics
characteristics_of kind leaf = characteristics_at kind leaf.attribute leaf.sub_attribute

-- whether comparisons of texts at the leaf are case-sensitive (RFC 7643 section 2.2); the answer doesn't
-- depend on the kind of resource
abbrev pub is_case_exact : Leaf → Bool
is_case_exact leaf = (characteristics_of User leaf).case_exact

-- whether an attribute holds a list of values; the answer doesn't depend on the kind of resource
abbrev pub is_multi_valued : Attribute → Bool
is_multi_valued a = (attribute_characteristics User a).multi_valued
