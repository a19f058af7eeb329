-- What a request is for, according to its method and target (RFC 7644 section 3.2).
use Rattle.std.specs.Prelude.{◌≡◌, ℕ, List, codes, Option, None, Some, ok_or, option_and_then, option_copied, Result, Ok, Err, if◌then◌else◌}
use Rattle.scim_schema.specs.declared.Kind.{Kind}
use Rattle.scim_schema.specs.declared.Op.{Op}
use Rattle.scim_schema.specs.declared.Op.TheVariants.{Read, Create as CreateOp, Modify, Delete}
use Rattle.scim_cell.specs.declared.ids.Id.{Id}
use Rattle.scim_cell.specs.Ids.{IsId, IsIdText, id_text}
use Rattle.scim_audit.specs.declared.allowed_methods.Methods.{Methods}
use Rattle.scim_audit.specs.declared.allowed_methods.Methods.TheVariants.{Collection, Search, Resource, Discovery}
use Rattle.scim_audit.specs.declared.refusals.Refusal.{Refusal}
use Rattle.scim_audit.specs.declared.refusals.Refusal.TheVariants.{NoRoute, NotSupported, BadMethod}
use Rattle.scim_route.specs.declared.endpoints.DiscoveryPage.{DiscoveryPage}
use Rattle.scim_route.specs.declared.routes.Form.{Form}
use Rattle.scim_route.specs.declared.routes.Form.TheVariants.{Get, ListGet, SearchPost, Create, Replace, Patch, Remove}
use Rattle.scim_route.specs.declared.routes.Route.{Route}
use Rattle.scim_route.specs.declared.routes.Found.{Found}
use Rattle.scim_route.specs.declared.routes.Found.TheVariants.{Discovery as FoundPage, Resource as FoundRoute}
use Rattle.scim_route.specs.Targets.{path_of, decoded}
use Rattle.scim_route.specs.Endpoints.{Place, unsupported, page, collection, search, resource, place_of, is}

-- what a request is for: a discovery page; or the resources of a kind or one of them, with the form of the
-- request and, for one resource, the text in the path that should be its id
pub data Named : Type 0 where
  a_page : DiscoveryPage → Named
  a_route : Form → Kind → Option (List ℕ) → Named

-- the form of a request with this method to an endpoint that allows these methods; `None` if the endpoint
-- doesn't allow the method (RFC 7644 section 3.2)
abbrev pub form_of : Methods → List ℕ → Option Form
form_of Collection method =
    if is method (codes "GET") then Some ListGet
    else if is method (codes "POST") then Some Create
    else None
form_of Search method = if is method (codes "POST") then Some SearchPost else None
form_of Resource method =
    if is method (codes "GET") then Some Get
    else if is method (codes "PUT") then Some Replace
    else if is method (codes "PATCH") then Some Patch
    else if is method (codes "DELETE") then Some Remove
    else None
form_of Discovery method = if is method (codes "GET") then Some Get else None

-- the operation on which the policy decides for a request of this form
abbrev pub op_of : Form → Op
op_of Get = Read
op_of ListGet = Read
op_of SearchPost = Read
op_of Create = CreateOp
op_of Replace = Modify
op_of Patch = Modify
op_of Remove = Delete

-- the form of a request with this method to an endpoint that allows `methods`; the error `BadMethod`, with
-- `methods`, if the endpoint doesn't allow the method
abbrev pub asked : Methods → List ℕ → Result Form Refusal
asked methods method = ok_or (form_of methods method) (BadMethod methods)

-- the request for the page if its method is allowed; otherwise the refusal
abbrev pub named_page : DiscoveryPage → Result Form Refusal → Result Named Refusal
named_page p (Ok form) = Ok (a_page p)
named_page p (Err refusal) = Err refusal

-- the request to the resources of a kind if its method is allowed; otherwise the refusal
abbrev pub named_route : Kind → Option (List ℕ) → Result Form Refusal → Result Named Refusal
named_route kind text (Ok form) = Ok (a_route form kind text)
named_route kind text (Err refusal) = Err refusal

-- the request that a method makes to an endpoint, or the refusal of the request
abbrev pub named_at : List ℕ → Place → Result Named Refusal
named_at method unsupported = Err NotSupported
named_at method (page p) = named_page p (asked Discovery method)
named_at method (collection kind) = named_route kind None (asked Collection method)
named_at method (search kind) = named_route kind None (asked Search method)
named_at method (resource kind text) = named_route kind (Some text) (asked Resource method)

-- the request that a method makes to an endpoint, or the refusal of the request; the error `NoRoute` if no
-- endpoint is given
abbrev pub named_at_any : List ℕ → Option Place → Result Named Refusal
named_at_any method None = Err NoRoute
named_at_any method (Some place) = named_at method place

-- what a request with this method and this target is for, or its refusal; the target's path is decoded to
-- find the endpoint
abbrev pub named : List ℕ → List ℕ → Result Named Refusal
named method target = named_at_any method (option_and_then place_of (decoded (path_of target)))

-- the id is the one that the text spells; it is `None` if there is no text, or if the text isn't an id
abbrev pub IsIdOf : Option (List ℕ) → Option Id → Type 0
IsIdOf None id = id ≡ None
IsIdOf (Some text) None = ¬ (IsIdText text)
IsIdOf (Some text) (Some id) = IsId id × (text ≡ id_text id)

-- the route has this form, the operation of the form, this kind, this query, and the id that `text` spells;
-- the route's id is `None` if `text` doesn't spell an id
pub record Says (form : Form) (kind : Kind) (text : Option (List ℕ)) (query : Option (List ℕ)) (route : Route) : Type 0 where
  pub form_is : route.form ≡ form
  pub op_is : route.op ≡ op_of form
  pub kind_is : route.kind ≡ kind
  pub id_is : IsIdOf text route.id
  pub query_is : option_copied route.query ≡ query

-- the result of a look-up is this request with this query, or this refusal
abbrev pub Finds : Result Named Refusal → Option (List ℕ) → Result Found Refusal → Type 0
Finds (Ok (a_page p)) query (Ok (FoundPage q text)) = (q ≡ p) × (option_copied text ≡ query)
Finds (Ok (a_route form kind text)) query (Ok (FoundRoute route)) = Says form kind text query route
Finds (Err refusal) query (Err told) = told ≡ refusal
Finds _ _ _ = ⊥
