-- The table of routes of SCIM's endpoints, as the router stores it.
use Rattle.std.specs.Prelude.{ℕ, List, [], ◌∷◌, codes, Result, Ok, Err, ◌++◌}
use Rattle.matchit.specs.Rows.{RowsOf, param_token}
use Rattle.matchit.specs.Order.{placed}
use Rattle.matchit.specs.Route.{Scan, parse_route}
use Rattle.matchit.specs.declared.error.InsertError.{InsertError}
use Rattle.scim_schema.specs.declared.Kind.TheVariants.{User, Group}
use Rattle.scim_route.specs.declared.endpoints.DiscoveryPage.TheVariants.{ServiceProviderConfig, ResourceTypes, Schemas}
use Rattle.scim_route.specs.declared.route_table.Leads.{Leads}
use Rattle.scim_route.specs.declared.route_table.Leads.TheVariants.{Unsupported, Page, ResourceType, Schema, Collection, Search, Resource}

-- the rows with a parsed route inserted at its position; unchanged if the route isn't valid
abbrev pub with_route : Result Scan InsertError → Leads → RowsOf Leads → RowsOf Leads
with_route (Ok scan) leads rows = placed (scan.pattern, leads) rows
with_route (Err fault) leads rows = rows

-- the rows with a route inserted at its position
abbrev pub with_path : List ℕ → Leads → RowsOf Leads → RowsOf Leads
with_path path leads rows = with_route (parse_route path) leads rows

-- the rows with these routes inserted at their positions, one after another
unfoldable pub with_paths : List (List ℕ × Leads) → RowsOf Leads → RowsOf Leads
with_paths [] rows = rows
with_paths (route ∷ rest) rows = with_paths rest (with_path route.0 route.1 rows)

-- the pattern of a parameter, which matches one segment
abbrev pub any : List ℕ
any = param_token ∷ []

-- the rows of all routes; the routes with a common prefix are together, the longer routes first
abbrev pub routes : RowsOf Leads
routes =
    (codes ".search", Unsupported)
    ∷ (codes "Bulk", Unsupported)
    ∷ (codes "Groups/.search", Search Group)
    ∷ (codes "Groups/" ++ any, Resource Group)
    ∷ (codes "Groups", Collection Group)
    ∷ (codes "Me/" ++ any, Unsupported)
    ∷ (codes "Me", Unsupported)
    ∷ (codes "ResourceTypes/" ++ any, ResourceType)
    ∷ (codes "ResourceTypes", Page ResourceTypes)
    ∷ (codes "Schemas/" ++ any, Schema)
    ∷ (codes "Schemas", Page Schemas)
    ∷ (codes "ServiceProviderConfig", Page ServiceProviderConfig)
    ∷ (codes "Users/.search", Search User)
    ∷ (codes "Users/" ++ any, Resource User)
    ∷ (codes "Users", Collection User)
    ∷ ([], Unsupported)
    ∷ []
