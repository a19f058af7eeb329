-- The tables of keys, by computation: they ascend, and have all attributes.
use Rattle.std.proofs.Common.{refl}
use Rattle.scim_schema.specs.declared.Kind.TheVariants.{User, Group}
use Rattle.scim_schema.specs.declared.Attribute.TheVariants.{Name, Emails, PhoneNumbers, Ims, Photos, Addresses, Groups, Entitlements, Roles, X509Certificates, Manager, Members, Meta}
use Rattle.scim_schema.specs.declared.schema_urns.Schema.TheVariants.{User as UserSchema, Group as GroupSchema, EnterpriseUser, SiteUser}
use Rattle.scim_schema.specs.declared.json_keys.JsonForm.TheVariants.{Shown, Stored}
use Rattle.scim_schema.specs.JsonKeys.{PartKeysAscend, ExtensionKeysAscend, SubAttributesAscend, AttributesHaveKeys, SubAttributesHaveKeys, schemas_name, keys, extension_keys, ordered_sub_attributes}

pub part_keys : PartKeysAscend
unfolding keys schemas_name
part_keys Shown User = refl
part_keys Shown Group = refl
part_keys Stored User = refl
part_keys Stored Group = refl

pub extension_attributes : ExtensionKeysAscend
unfolding extension_keys
extension_attributes EnterpriseUser = refl
extension_attributes SiteUser = refl
extension_attributes UserSchema = refl
extension_attributes GroupSchema = refl

pub sub_attributes : SubAttributesAscend
unfolding ordered_sub_attributes
sub_attributes Shown Meta = refl
sub_attributes Stored Meta = refl
sub_attributes form Name = refl
sub_attributes form Emails = refl
sub_attributes form PhoneNumbers = refl
sub_attributes form Ims = refl
sub_attributes form Photos = refl
sub_attributes form Addresses = refl
sub_attributes form Groups = refl
sub_attributes form Entitlements = refl
sub_attributes form Roles = refl
sub_attributes form X509Certificates = refl
sub_attributes form Manager = refl
sub_attributes form Members = refl
sub_attributes form _ = refl

pub all_attributes : AttributesHaveKeys
unfolding keys extension_keys
all_attributes User = refl
all_attributes Group = refl

pub all_sub_attributes : SubAttributesHaveKeys
unfolding ordered_sub_attributes
all_sub_attributes Name = refl
all_sub_attributes Emails = refl
all_sub_attributes PhoneNumbers = refl
all_sub_attributes Ims = refl
all_sub_attributes Photos = refl
all_sub_attributes Addresses = refl
all_sub_attributes Groups = refl
all_sub_attributes Entitlements = refl
all_sub_attributes Roles = refl
all_sub_attributes X509Certificates = refl
all_sub_attributes Manager = refl
all_sub_attributes Members = refl
all_sub_attributes Meta = refl
all_sub_attributes _ = refl
