use Rattle.std.proofs.Common.{sym, ◌∙◌, subst, []}
use denote.Ref.{Bor}
use Rattle.std.proofs.lemmas.List.Kept.{IsStrictlySortedBy-filter}
use Rattle.scim_cell.specs.Kinds.{is_of, of_kind}
use Rattle.scim_cell.specs.Order.{id_cmp}
use Rattle.scim_view.specs.View.{viewer_of}
use Rattle.scim_query.specs.declared.queries.Query.{Query}
use Rattle.scim_query.specs.Pages.{IsPage}
use Rattle.scim_query.specs.Pagers.{HasTaken}
use Rattle.scim_search.specs.declared.view_builders.ViewBuilder.{ViewBuilder}
use Rattle.scim_search.specs.ViewBuilders.{made, IsViewBuilder}
use Rattle.scim_search.specs.Walks.{is_walked, made_of_walk, walked}
use Rattle.scim_search.proofs.StoreViews.{made_id, made_ascends, strict_sorted}
use Rattle.scim_search.specs.PatternCache.{Recalls}
use Rattle.scim_search.proofs.VisitLemmas.{took_resources}
use Rattle.scim_search.proofs.WalkLemmas.{walked_found}
use Rattle.scim_search.proofs.walks.page_made.Goals as goal

pub returns-clause-page : goal.returns-clause-page
returns-clause-page g c store stands honest groups base is valid =
    let walk = c.args.walk.now in
    let kind = walk.kind in
    let those = walked walk store.resources in
    let builder = c.args.builder in
    let viewer = viewer_of builder.viewer.now in
    let make = made viewer groups builder.scope in
    let parts = made_of_walk groups builder walk store.resources in
    let first = c.new-search.result in
    let fresh = c.new-search.ensures in
    let last = c.show.new.visitor in
    let took = took_resources first those last (c.in_ok-show.ensures.answer store stands honest) in
    let taken : HasTaken parts last.pager =
    subst (λ (s : ViewBuilder). HasTaken (made_of_walk groups s walk store.resources) last.pager) fresh.builder
    (took.taken groups [] (subst (IsViewBuilder groups) (sym fresh.builder) is) fresh.skips fresh.taken) in
    let ascend = strict_sorted parts (made_ascends make viewer (made_id viewer groups builder.scope) those
    (IsStrictlySortedBy-filter id_cmp (is_walked walk.scope) (of_kind kind store.resources) (IsStrictlySortedBy-filter id_cmp (is_of kind) store.resources valid.keyed.ascending))) in
    let kept = took.cached groups store.resources kind (subst (IsViewBuilder groups) (sym fresh.builder) is) (walked_found base store valid walk) (fresh.cached (viewer_of first.builder.viewer.now) kind store.resources) in (
      subst (λ (q : Bor Query). IsPage parts q.now c.in_ok-end.field-0.page) (took.query ∙ fresh.query) (c.in_ok-end.ensures.page parts taken (λ e. ascend)),
      subst (Recalls viewer kind store.resources) (sym c.in_ok-end.ensures.cached) (subst (λ (s : ViewBuilder). Recalls (viewer_of s.viewer.now) kind store.resources last.cached) fresh.builder kept),
    )
