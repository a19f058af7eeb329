use Rattle.std.proofs.Common.{◌≡◌, refl, sym, ap}
use Rattle.std.specs.Prelude.{None, Some, Ok}
use Rattle.scim_audit.specs.declared.allowed_methods.Methods.TheVariants.{Collection, Search, Resource}
use Rattle.scim_route.specs.Endpoints.{collection, search, resource}
use Rattle.scim_route.specs.code.Places.{place_at}
use Rattle.scim_route.specs.Routes.{asked}
use Rattle.scim_route.proofs.RouteLemmas.{id_read, collection_found, search_found, resource_found}
use Rattle.scim_route.proofs.routes.found_at.Goals as goal

pub returns-in_ok-form-in-Collection : goal.returns-in_ok-form-in-Collection
returns-in_ok-form-in-Collection c =
    let method = c.args.method.now in
    let form = c.in_ok-form-in-Collection.form in
    let has : asked Collection method ≡ Ok form = sym c.in_ok-form-in-Collection.ensures in
    let at : place_at c.args.endpoint ≡ collection c.in-Collection.kind = ap place_at c.in-Collection.is in
    collection_found method _ _ form _ _ at has (c.route_of.ensures None refl)

pub returns-in_ok-form-in-Search : goal.returns-in_ok-form-in-Search
returns-in_ok-form-in-Search c =
    let method = c.args.method.now in
    let form = c.in_ok-form-in-Search.form in
    let has : asked Search method ≡ Ok form = sym c.in_ok-form-in-Search.ensures in
    let at : place_at c.args.endpoint ≡ search c.in-Search.kind = ap place_at c.in-Search.is in
    search_found method _ _ form _ _ at has (c.route_of-in-Search.ensures None refl)

pub returns-in_ok-form-in-Resource : goal.returns-in_ok-form-in-Resource
returns-in_ok-form-in-Resource c =
    let method = c.args.method.now in
    let form = c.in_ok-form-in-Resource.form in
    let text = c.in-Resource.text.now in
    let has : asked Resource method ≡ Ok form = sym c.in_ok-form-in-Resource.ensures in
    let at : place_at c.args.endpoint ≡ resource c.in-Resource.kind text = ap place_at c.in-Resource.is in
    resource_found method _ _ text form _ _ at has (c.route_of-in-Resource.ensures (Some text) (id_read text c.read.result c.read.ensures.form c.read.ensures.value c.read.ensures.id))
