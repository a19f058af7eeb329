use Rattle.std.proofs.Common.{◌≡◌, sym, ◌∙◌, subst, []}
use Rattle.scim_schema.specs.declared.Kind.TheVariants.{Group}
use Rattle.scim_cell.specs.Kinds.{of_kind}
use Rattle.scim_view.specs.View.{viewer_of}
use Rattle.scim_view.specs.Groups.{views, with_groups}
use Rattle.scim_search.specs.ShownItems.{AreItems, IsItemBuilder, SeenResource}
use Rattle.scim_search.specs.Walks.{walked}
use Rattle.scim_search.specs.declared.shown_items.ItemBuilder.{ItemBuilder}
use Rattle.scim_search.specs.declared.view_builders.ViewBuilder.{ViewBuilder}
use Rattle.scim_search.specs.PatternCache.{Recalls}
use Rattle.scim_search.proofs.ShownPageLemmas.{shown_by}
use Rattle.scim_search.proofs.WalkLemmas.{named_page, named_sight, small_ids, none_shown, empty_list}
use Rattle.scim_search.proofs.walks.page_by_named.Goals as goal

pub returns-then-is_empty-clause-page : goal.returns-then-is_empty-clause-page
returns-then-is_empty-clause-page g c store stands honest base is =
    let viewer = viewer_of c.args.viewer.now in
    let walk = c.args.walk.now in
    let query = c.args.query.now in
    let groups = of_kind Group store.resources in
    let found = c.in_ok-found.found.page in
    let page = named_page c.args.viewer walk query base store is c.args.attributes c.requires.named c.requires.no_groups found c.args.patterns c.new-builder.result c.requires.patterns c.new-builder.ensures
    (λ known. (c.in_ok-found.ensures.page store stands honest [] base known is).0) in
    let empty : found.items.items ≡ [] = sym c.as_slice.ensures.value ∙ empty_list _ (sym c.is_empty.ensures ∙ c.if-is_empty.true) in
    shown_by (views viewer groups (walked walk store.resources)) query (λ (x : SeenResource viewer walk.kind store.resources). with_groups viewer groups x.own) page.0 found page.2
    (empty ∙ sym (none_shown _ _ page.0 (sym page.1 ∙ empty)))

pub returns-clause-page : goal.returns-clause-page
returns-clause-page g c store stands honest base is =
    let viewer = viewer_of c.args.viewer.now in
    let walk = c.args.walk.now in
    let query = c.args.query.now in
    let groups = of_kind Group store.resources in
    let found = c.in_ok-found.found.page in
    let earlier = c.in_ok-items.ensures.read.honest honest in
    let page = named_page c.args.viewer walk query base store is c.args.attributes c.requires.named c.requires.no_groups found c.args.patterns c.new-builder.result c.requires.patterns c.new-builder.ensures
    (λ known. (c.in_ok-found.ensures.page store stands earlier [] base known is).0) in
    let known = named_sight c.args.viewer c.args.attributes c.args.patterns c.new-builder.result c.requires.patterns c.new-builder.ensures in
    let recalls = subst (λ (s : ViewBuilder). Recalls (viewer_of s.viewer.now) walk.kind store.resources c.in_ok-found.found.cached) c.new-builder.ensures
    (c.in_ok-found.ensures.page store stands earlier [] base known is).1 in
    let builder : IsItemBuilder store.resources c.new-builder-2.result
    = subst (IsItemBuilder store.resources) (sym c.new-builder-2.ensures) (record { patterns = c.requires.patterns; cached = recalls }) in
    let made = subst (λ (s : ItemBuilder). AreItems (viewer_of s.viewer.now) s.wanted.now s.kind store.resources c.as_slice-2.result.now c.in_ok-items.items.items) c.new-builder-2.ensures
    (c.in_ok-items.ensures.items store (c.in_ok-found.ensures.read.store store stands) honest base is builder) in
    shown_by (views viewer groups (walked walk store.resources)) query (λ (x : SeenResource viewer walk.kind store.resources). with_groups viewer groups x.own) page.0 _ page.2
    (made page.0 (small_ids viewer walk.kind store.resources query _ page.0 (c.as_slice-2.ensures.value ∙ page.1)))
