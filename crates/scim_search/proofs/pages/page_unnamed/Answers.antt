use Rattle.std.proofs.Common.{subst, filter}
use Rattle.std.proofs.lemmas.Result.{IfOk-weaker}
use Rattle.scim_schema.specs.declared.Kind.{Kind}
use Rattle.scim_schema.specs.declared.Kind.TheVariants.{Group}
use Rattle.scim_cell.specs.Kinds.{of_kind}
use Rattle.scim_view.specs.View.{viewer_of}
use Rattle.scim_view.specs.Groups.{views}
use Rattle.scim_query.specs.ClientSearches.{IsShownPage}
use Rattle.scim_search.specs.Walks.{is_walked}
use Rattle.scim_search.proofs.LookupLemmas.{page_of_passing}
use Rattle.scim_search.proofs.ShownPageLemmas.{shown_as}
use Rattle.scim_search.proofs.pages.page_unnamed.Goals as goal

pub returns-clause-page : goal.returns-clause-page
returns-clause-page g c =
    IfOk-weaker c.page_of_walk.result _ _
    (λ page answer store stands honest base is.
    let viewer = viewer_of c.args.viewer.now in
    let groups = of_kind Group store.resources in
    let query = c.args.query.now in
    let walk = c.in_ok-walk.walk in
    shown_as (views viewer groups (filter (is_walked walk.scope) (of_kind c.args.kind store.resources))) (views viewer groups (of_kind c.args.kind store.resources)) query page
    (λ whole. page_of_passing c.args.kind (is_walked walk.scope) viewer groups base store query whole is c.in_ok-walk.ensures.only)
    (subst (λ (k : Kind). IsShownPage (views viewer groups (filter (is_walked walk.scope) (of_kind k store.resources))) query page) c.in_ok-walk.ensures.kind (answer store stands honest base is)))
    c.page_of_walk.ensures.page
