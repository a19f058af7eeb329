-- The endpoints that paths name (RFC 7644 section 3.2).
use Rattle.std.specs.Prelude.{ℕ, Bool, List, [], ◌∷◌, length, codes, Option, None, Some, option_map, ◌==◌, if◌then◌else◌, nat_eq}
use Rattle.std.specs.List.{list_any, position_or_len, before_first, after_first}
use Rattle.std.specs.Cmp.Lexicographic.{pointwise}
use Rattle.scim_schema.specs.declared.Kind.{Kind}
use Rattle.scim_schema.specs.declared.Kind.TheVariants.{User, Group}
use Rattle.scim_schema.specs.Lookup.{kind_named, schema_named}
use Rattle.scim_route.specs.declared.endpoints.DiscoveryPage.{DiscoveryPage}
use Rattle.scim_route.specs.declared.endpoints.DiscoveryPage.TheVariants.{ServiceProviderConfig, ResourceTypes, ResourceType, Schemas, Schema}
use Rattle.scim_route.specs.Targets.{is_slash}

-- an endpoint: one that this server doesn't support, a discovery page, the resources of a kind, the search of
-- the resources of a kind, or one resource of a kind with the text in the path that should be its id
pub data Place : Type 0 where
  unsupported : Place
  page : DiscoveryPage → Place
  collection : Kind → Place
  search : Kind → Place
  resource : Kind → List ℕ → Place

-- whether two texts are equal, byte by byte
abbrev pub is : List ℕ → List ℕ → Bool
is = pointwise nat_eq

-- the kind whose resources are at `/{name}`; `None` if there is no such kind
abbrev pub kind_below : List ℕ → Option Kind
kind_below name = if is name (codes "Users") then Some User else if is name (codes "Groups") then Some Group else None

-- the endpoint at `/{name}` if `name` isn't `Users` or `Groups`; `None` if there is no such endpoint
abbrev pub other_at_top : List ℕ → Option Place
other_at_top name =
    if is name (codes "") then Some unsupported
    else if is name (codes ".search") then Some unsupported
    else if is name (codes "Bulk") then Some unsupported
    else if is name (codes "Me") then Some unsupported
    else if is name (codes "ServiceProviderConfig") then Some (page ServiceProviderConfig)
    else if is name (codes "ResourceTypes") then Some (page ResourceTypes)
    else if is name (codes "Schemas") then Some (page Schemas)
    else None

-- the endpoint of all resources of the given kind, or `other` if no kind is given
abbrev pub collection_or : Option Place → Option Kind → Option Place
collection_or other (Some kind) = Some (collection kind)
collection_or other None = other

-- the endpoint at `/{name}`; `None` if there is no endpoint
abbrev pub at_top : List ℕ → Option Place
at_top name = collection_or (other_at_top name) (kind_below name)

-- the endpoint at `/Users/{text}` or `/Groups/{text}`
abbrev pub among : Kind → List ℕ → Place
among kind text = if is text (codes ".search") then search kind else resource kind text

-- the endpoint at `/{name}/{text}` if `name` isn't `Users` or `Groups`; `None` if there is no such endpoint
abbrev pub other_below : List ℕ → List ℕ → Option Place
other_below name text =
    if is name (codes "Me") then Some unsupported
    else if is name (codes "ResourceTypes") then option_map (λ kind. page (ResourceType kind)) (kind_named text)
    else if is name (codes "Schemas") then option_map (λ schema. page (Schema schema)) (schema_named text)
    else None

-- the endpoint at `/Users/{text}` or `/Groups/{text}`, by the given kind; `other` if no kind is given
abbrev pub among_or : Option Place → Option Kind → List ℕ → Option Place
among_or other (Some kind) text = Some (among kind text)
among_or other None text = other

-- the endpoint at `/{name}/{text}`; `None` if `text` is empty or contains a slash, or if there is no endpoint
abbrev pub below : List ℕ → List ℕ → Option Place
below name [] = None
below name (b ∷ text) = if list_any is_slash (b ∷ text) then None else among_or (other_below name (b ∷ text)) (kind_below name) (b ∷ text)

-- the endpoint of a path; `None` if there is no endpoint; the path is given without its leading slash
abbrev pub in_segments : List ℕ → Option Place
in_segments segments =
    if position_or_len is_slash segments == length segments then at_top segments
    else below (before_first is_slash segments) (after_first is_slash segments)

-- the text without one slash at its end, if it ends in a slash
unfoldable pub without_last_slash : List ℕ → List ℕ
without_last_slash [] = []
without_last_slash (b ∷ []) = if is_slash b then [] else b ∷ []
without_last_slash (b ∷ c ∷ rest) = b ∷ without_last_slash (c ∷ rest)

-- the endpoint of a path; `None` if there is no endpoint; one slash at the end is ignored, unless it is the
-- leading slash
abbrev pub place_of : List ℕ → Option Place
place_of [] = None
place_of (b ∷ rest) = if is_slash b then in_segments (without_last_slash rest) else None
