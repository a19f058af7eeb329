use Rattle.std.proofs.Common.{◌≡◌, sym, ◌∙◌, ap, subst, filter, List, []}
use Rattle.std.proofs.lemmas.Result.{IfOk-weaker}
use Rattle.scim_schema.specs.declared.Kind.{Kind}
use Rattle.scim_schema.specs.declared.Kind.TheVariants.{Group}
use Rattle.scim_cell.specs.Content.{Content}
use Rattle.scim_cell.specs.Equality.{is_same_id}
use Rattle.scim_cell.specs.Kinds.{of_kind}
use Rattle.scim_view.specs.View.{viewer_of}
use Rattle.scim_view.specs.Groups.{views}
use Rattle.scim_query.specs.ClientSearches.{IsShownPage}
use Rattle.scim_query.specs.Pages.{matching}
use Rattle.scim_shelf.specs.Stores.{is_at, those_at}
use Rattle.scim_search.specs.declared.walks.Walk.{Walk}
use Rattle.scim_search.specs.declared.walks.WalkScope.TheVariants as scope
use Rattle.scim_search.proofs.LookupLemmas.{found_with_id, only_by_id, page_found_of_all, page_of_matching, page_of_passing}
use Rattle.scim_search.proofs.ApartLemmas.{none_at}
use Rattle.scim_search.proofs.ShownPageLemmas.{shown_as}
use Rattle.scim_search.proofs.WalkLemmas.{all_walked, none_matches}
use Rattle.scim_search.proofs.lookups.page_with_id.Goals as goal

pub returns-then-contains-clause-page : goal.returns-then-contains-clause-page
returns-then-contains-clause-page g c =
    IfOk-weaker c.page_found.result _ _
    (λ page answer store stands honest base is.
    (let found = c.in_ok-owner.ensures.answer store stands (c.page_found.ensures.read.honest honest) in
    shown_as _ _ c.args.query.now page
    (λ whole. page_found_of_all c.args.kind (is_at c.args.kind c.args.id) (viewer_of c.args.viewer.now) (of_kind Group store.resources) base store c.args.query.now _ whole is (none_at c.args.kind c.args.id)
    c.requires found) (answer store (c.in_ok-owner.ensures.read.store store stands) honest base is)))
    c.page_found.ensures.page

pub returns-then-not-may_find-clause-page : goal.returns-then-not-may_find-clause-page
returns-then-not-may_find-clause-page g c store stands honest base is =
    let viewer = viewer_of c.args.viewer.now in
    let groups = of_kind Group store.resources in
    let query = c.args.query.now in
    let all = of_kind c.args.kind store.resources in
    let walk : Walk = record { kind = c.args.kind; scope = scope.WholeKind } in
    let none : [] ≡ matching query.filter (views viewer groups all)
    = subst (λ (cs : List Content). [] ≡ matching query.filter (views viewer groups cs)) (sym (all_walked all))
    (none_matches viewer walk groups query.filter base store is
    (λ d part own seen. c.may_find.ensures c.if-not-may_find.true viewer groups d c.in_ok-patterns.ensures.patterns part (own ∙ sym c.in_ok-patterns.ensures.kind) seen)) in
    shown_as [] (views viewer groups all) query _ (λ whole. page_of_matching [] (views viewer groups all) query whole none) c.empty_page.ensures

pub returns-clause-page : goal.returns-clause-page
returns-clause-page g c =
    IfOk-weaker c.page_of_id.result _ _
    (λ page answer store stands honest base is.
    let viewer = viewer_of c.args.viewer.now in
    let groups = of_kind Group store.resources in
    let query = c.args.query.now in
    let kind = c.args.kind in
    let id = c.args.id in
    let of_id = λ (d : Content). is_same_id id d.id in
    let all = of_kind kind store.resources in
    let found : those_at c.in_ok-patterns.patterns.kind id store.resources ≡ filter of_id all
    = ap (λ (k : Kind). those_at k id store.resources) c.in_ok-patterns.ensures.kind ∙ found_with_id kind id base store is in
    shown_as (views viewer groups (filter of_id all)) (views viewer groups all) query page
    (λ whole. page_of_passing kind of_id viewer groups base store query whole is (only_by_id kind query.filter id c.requires))
    (subst (λ (cs : List Content). IsShownPage (views viewer groups cs) query page) found (answer store stands honest base is)))
    c.page_of_id.ensures.page
