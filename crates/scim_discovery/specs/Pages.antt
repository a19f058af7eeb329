-- The replies to requests for discovery pages (RFC 7644 section 4).
use Rattle.std.specs.Prelude.{◌≡◌, ℕ, Bool, false, not, List, ◌==◌, map, Option, None, Some, Result, Ok, Err, if◌then◌else◌}
use Rattle.std.specs.List.{list_any}
use Rattle.serde_json.specs.Data.{Data}
use Rattle.serde_json.specs.Written.{compact_text}
use Rattle.scim_schema.specs.Names.{kinds}
use Rattle.scim_schema.specs.Schemas.{schemas}
use Rattle.scim_audit.specs.declared.refusals.Refusal.{Refusal}
use Rattle.scim_audit.specs.declared.refusals.Refusal.TheVariants.{Denied}
use Rattle.scim_route.specs.declared.endpoints.DiscoveryPage.{DiscoveryPage}
use Rattle.scim_route.specs.declared.endpoints.DiscoveryPage.TheVariants.{ServiceProviderConfig, ResourceTypes, ResourceType, Schemas, Schema}
use Rattle.scim_route.specs.Parameters.{parameters_of}
use Rattle.scim_discovery.specs.ServiceProviderConfig.{service_provider_config}
use Rattle.scim_discovery.specs.ResourceTypes.{resource_type_data}
use Rattle.scim_discovery.specs.Schemas.{schema_data}
use Rattle.scim_discovery.specs.Lists.{list_data}

-- the JSON of a page
abbrev pub page_data : DiscoveryPage → Data
page_data ServiceProviderConfig = service_provider_config
page_data ResourceTypes = list_data (map resource_type_data kinds)
page_data (ResourceType kind) = resource_type_data kind
page_data Schemas = list_data (map schema_data schemas)
page_data (Schema schema) = schema_data schema

-- whether a text has a character other than a space
abbrev pub is_given : List ℕ → Bool
is_given text = list_any (λ b. not (b == 32)) text

-- whether there is a text, and it has a character other than a space
abbrev pub is_given_in : Option (List ℕ) → Bool
is_given_in None = false
is_given_in (Some text) = is_given text

-- whether a query string has a filter that isn't blank
abbrev pub has_filter : Option (List ℕ) → Bool
has_filter query = is_given_in (parameters_of query).filter

-- the body of the reply to a request for a page; the error `Denied` if the query string has a filter
abbrev pub reply_of : DiscoveryPage → Option (List ℕ) → Result (List ℕ) Refusal
reply_of page query = if has_filter query then Err Denied else Ok (compact_text (page_data page))

-- the result is the reply that `reply_of` defines
abbrev pub Replies : DiscoveryPage → Option (List ℕ) → Result (List ℕ) Refusal → Type 0
Replies page query told = told ≡ reply_of page query
