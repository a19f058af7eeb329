use Rattle.std.proofs.Common.{rules, ◌≡◌, sym, ◌∙◌, ap, subst, List, [], filter, arith}
use Rattle.std.proofs.lemmas.Result.{IfOk-weaker}
use denote.Ref.{Bor}
use Rattle.scim_schema.specs.declared.Kind.TheVariants.{Group}
use Rattle.scim_cell.specs.Content.{Content}
use Rattle.scim_cell.specs.Kinds.{of_kind}
use Rattle.scim_view.specs.View.{viewer_of}
use Rattle.scim_view.specs.Groups.{views}
use Rattle.scim_query.specs.declared.queries.Query.{Query}
use Rattle.scim_query.specs.ClientSearches.{IsShownPage}
use Rattle.scim_query.specs.Pages.{IsPage}
use Rattle.scim_search.specs.declared.walks.WalkScope.{WalkScope}
use Rattle.scim_search.specs.declared.walks.WalkScope.TheVariants as scope
use Rattle.scim_search.specs.Walks.{is_walked, walked}
use Rattle.scim_search.proofs.LookupLemmas.{page_of_matching, one_in_order}
use Rattle.scim_search.proofs.WalkLemmas.{all_walked, none_matches}
use Rattle.scim_search.proofs.walks.page_of_walk.Goals as goal

pub returns-then-not-may_find-clause-page : goal.returns-then-not-may_find-clause-page
returns-then-not-may_find-clause-page g c store stands honest base is =
    let viewer = viewer_of c.args.viewer.now in
    let walk = c.args.walk.now in
    let query = c.args.query.now in
    let page = c.in_ok-none.none in
    let none : IsPage [] query page
    = subst (λ (q : Bor Query). IsPage [] q.now page) c.new.ensures.query (c.in_ok-none.ensures [] c.new.ensures.taken (λ e. one_in_order [] (omega arith))) in
    let is_page =
    page_of_matching [] (views viewer (of_kind Group store.resources) (walked walk store.resources)) query page
    (none_matches viewer walk (of_kind Group store.resources) query.filter base store is
    (λ d part own seen. c.may_find.ensures c.if-not-may_find.true viewer (of_kind Group store.resources) d c.in_ok-patterns.ensures.patterns part (own ∙ sym c.in_ok-patterns.ensures.kind) seen)) none in
    record { found = page; is_page = is_page; total = c.in_ok-shown_page.ensures.total; start = c.in_ok-shown_page.ensures.start; items = c.in_ok-shown_page.ensures.items }

pub returns-then-is_of_all-clause-page : goal.returns-then-is_of_all-clause-page
returns-then-is_of_all-clause-page g c =
    let walk = c.args.walk.now in
    let whole : walk.scope ≡ scope.WholeKind = search rules in
    IfOk-weaker c.page_of_window.result _ _
    (λ page answer store stands honest base is.
    let all = of_kind walk.kind store.resources in
    let same : all ≡ walked walk store.resources = all_walked all ∙ ap (λ (s : WalkScope). filter (is_walked s) all) (sym whole) in
    subst (λ (cs : List Content). IsShownPage (views (viewer_of c.args.viewer.now) (of_kind Group store.resources) cs) c.args.query.now page) same (answer store stands honest base is))
    c.page_of_window.ensures.page
