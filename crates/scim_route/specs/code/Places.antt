-- The `Place` that an endpoint or a route of the code represents.
use Rattle.std.specs.Prelude.{ℕ, List, Option, Some, option_map}
use Rattle.scim_schema.specs.Lookup.{kind_named, schema_named}
use Rattle.scim_route.specs.declared.endpoints.DiscoveryPage.TheVariants.{ResourceType as resource_type, Schema as schema}
use Rattle.scim_route.specs.declared.route_table.Leads.{Leads}
use Rattle.scim_route.specs.declared.route_table.Leads.TheVariants.{Unsupported as LeadsNowhere, Page as LeadsToPage, ResourceType as LeadsToResourceType, Schema as LeadsToSchema, Collection as LeadsToCollection, Search as LeadsToSearch, Resource as LeadsToResource}
use Rattle.scim_route.specs.declared.endpoints.Endpoint.{Endpoint}
use Rattle.scim_route.specs.declared.endpoints.Endpoint.TheVariants.{Unsupported, Discovery, Collection, Search, Resource}
use Rattle.scim_route.specs.Endpoints.{Place, unsupported, page, collection, search, resource}

-- the `Place` that an `Endpoint` represents
abbrev pub place_at : Endpoint → Place
place_at Unsupported = unsupported
place_at (Discovery p) = page p
place_at (Collection kind) = collection kind
place_at (Search kind) = search kind
place_at (Resource kind text) = resource kind text.now

-- the endpoint that a route leads to, where `text` is the part of the path after the first segment and its
-- slash; `None` if `text` should name a resource type or a schema, but doesn't
abbrev pub led : Leads → List ℕ → Option Place
led LeadsNowhere text = Some unsupported
led (LeadsToPage p) text = Some (page p)
led LeadsToResourceType text = option_map (λ kind. page (resource_type kind)) (kind_named text)
led LeadsToSchema text = option_map (λ s. page (schema s)) (schema_named text)
led (LeadsToCollection kind) text = Some (collection kind)
led (LeadsToSearch kind) text = Some (search kind)
led (LeadsToResource kind) text = Some (resource kind text)
