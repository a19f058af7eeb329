-- No page has a float.
use Rattle.std.proofs.Common.{◌≡◌, false, refl}
use Rattle.serde_json.specs.Written.{has_float}
use Rattle.scim_schema.specs.declared.Kind.TheVariants.{User, Group}
use Rattle.scim_schema.specs.declared.schema_urns.Schema.TheVariants.{User as UserSchema, Group as GroupSchema, EnterpriseUser, SiteUser}
use Rattle.scim_route.specs.declared.endpoints.DiscoveryPage.{DiscoveryPage}
use Rattle.scim_route.specs.declared.endpoints.DiscoveryPage.TheVariants.{ServiceProviderConfig, ResourceTypes, ResourceType, Schemas, Schema}
use Rattle.scim_discovery.specs.ServiceProviderConfig.{service_provider_config}
use Rattle.scim_discovery.specs.ResourceTypes.{resource_type_data}
use Rattle.scim_discovery.specs.Schemas.{schema_data}
use Rattle.scim_discovery.specs.Lists.{list_data}
use Rattle.scim_discovery.specs.Pages.{page_data}

pub page_has_no_float : (page : DiscoveryPage) → has_float (page_data page) ≡ false
unfolding service_provider_config resource_type_data schema_data list_data
page_has_no_float ServiceProviderConfig = refl
page_has_no_float ResourceTypes = refl
page_has_no_float (ResourceType User) = refl
page_has_no_float (ResourceType Group) = refl
page_has_no_float Schemas = refl
page_has_no_float (Schema UserSchema) = refl
page_has_no_float (Schema GroupSchema) = refl
page_has_no_float (Schema EnterpriseUser) = refl
page_has_no_float (Schema SiteUser) = refl
