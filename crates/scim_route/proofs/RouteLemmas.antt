-- What is found at endpoints.
use Rattle.std.proofs.Common.{◌≡◌, ℕ, List, true, false}
use Rattle.std.specs.Prelude.{◌↔◌, Option, None, Some, Ok, IsSome, IfSome}
use Rattle.scim_schema.specs.declared.Kind.{Kind}
use Rattle.scim_cell.specs.declared.ids.Id.{Id}
use Rattle.scim_cell.specs.Ids.{IsId, IsIdText, id_text}
use Rattle.scim_audit.specs.declared.allowed_methods.Methods.TheVariants.{Collection, Search, Resource}
use Rattle.scim_route.specs.declared.routes.Form.{Form}
use Rattle.scim_route.specs.declared.routes.Route.{Route}
use Rattle.scim_route.specs.declared.routes.Found.TheVariants.{Resource as FoundRoute}
use Rattle.scim_route.specs.Endpoints.{Place, collection, search, resource}
use Rattle.scim_route.specs.Routes.{asked, named_at, IsIdOf, Says, Finds}

-- what `Id::read` gives of a text is the id that it is that of
pub id_read : (text : List ℕ) (r : Option Id) → IsSome r ↔ IsIdText text → IfSome r (λ id. text ≡ id_text id) → IfSome r IsId → IsIdOf (Some text) r
id_read text None form value id = λ is. (let none : false ≡ true = form.1 is in cc)
id_read text (Some i) form value id = (id, value)

-- the resources of a kind are found where the method is one of theirs
pub collection_found : (method : List ℕ) (place : Place) (kind : Kind) (form : Form) (query : Option (List ℕ)) (route : Route)
    → place ≡ collection kind → asked Collection method ≡ Ok form → Says form kind None query route → Finds (named_at method place) query (Ok (FoundRoute route))
collection_found method place kind form query route at has says = rw (at, has) says

-- and so is their search
pub search_found : (method : List ℕ) (place : Place) (kind : Kind) (form : Form) (query : Option (List ℕ)) (route : Route)
    → place ≡ search kind → asked Search method ≡ Ok form → Says form kind None query route → Finds (named_at method place) query (Ok (FoundRoute route))
search_found method place kind form query route at has says = rw (at, has) says

-- and so is one of them
pub resource_found : (method : List ℕ) (place : Place) (kind : Kind) (text : List ℕ) (form : Form) (query : Option (List ℕ)) (route : Route)
    → place ≡ resource kind text → asked Resource method ≡ Ok form → Says form kind (Some text) query route → Finds (named_at method place) query (Ok (FoundRoute route))
resource_found method place kind text form query route at has says = rw (at, has) says
