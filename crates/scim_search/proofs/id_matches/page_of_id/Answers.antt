use Rattle.std.proofs.Common.{rules, ◌≡◌, false, ◌-◌, length, sym, ◌∙◌, ap, refl, subst, take, drop, List}
use Rattle.scim_schema.specs.declared.Kind.{Kind}
use Rattle.scim_schema.specs.declared.Kind.TheVariants.{Group}
use Rattle.scim_cell.specs.Content.{Content}
use Rattle.scim_cell.specs.Kinds.{of_kind}
use Rattle.scim_view.specs.View.{viewer_of}
use Rattle.scim_view.specs.Groups.{views}
use Rattle.scim_query.specs.ClientSearches.{IsShownPage}
use Rattle.scim_shelf.specs.Stores.{those_at}
use Rattle.scim_search.specs.declared.id_matches.MatchVisitor.{MatchVisitor}
use Rattle.scim_search.specs.declared.shown_items.ItemBuilder.{ItemBuilder}
use Rattle.scim_search.specs.ShownItems.{AreItems, IsItemBuilder}
use Rattle.scim_search.proofs.IdMatchLemmas.{Matched, page_of_matched, took_match, took_recalls}
use Rattle.scim_search.proofs.id_matches.page_of_id.Goals as goal

pub returns-clause-page : goal.returns-clause-page
returns-clause-page g c store stands honest base is =
    let viewer = viewer_of c.args.viewer.now in
    let query = c.args.query.now in
    let kind = c.kind-kind.result in
    let id = c.args.id in
    let parts = c.in_ok-matched.matched.items in
    let page = c.page_of_items.result in
    let first : MatchVisitor = record { viewer = c.args.viewer; patterns = c.args.patterns; attributes = c.args.attributes; query = c.args.query; matches = false; cached = c.new.result } in
    let last = c.lend_by_id.new.visitor in
    let lent = c.in_ok-lend_by_id.ensures.answer store stands (c.in_ok-items.ensures.read.honest honest) in
    let recalls = took_recalls first last kind base store is id c.requires.patterns lent (c.new.ensures viewer kind store.resources) in
    let matched : Matched viewer kind query base store is id _
    = subst (Matched viewer kind query base store is id) (sym c.in_ok-matched.ensures) (took_match first last kind base store is id c.requires.patterns lent c.requires.named c.requires.no_groups refl) in
    let builder : IsItemBuilder store.resources c.new-builder.result
    = subst (IsItemBuilder store.resources) (sym c.new-builder.ensures) (record { patterns = c.requires.patterns; cached = recalls }) in
    let made = subst (λ (s : ItemBuilder). AreItems (viewer_of s.viewer.now) s.wanted.now s.kind store.resources c.slice_of-shown.result.now c.in_ok-items.items.items) c.new-builder.ensures
    (c.in_ok-items.ensures.items store (c.in_ok-lend_by_id.ensures.read.store store stands) honest base is builder) in
    let shown = c.slice_of-shown.ensures ∙ ap (λ (ps : List Content). take query.count (drop (query.start - 1) ps)) c.as_slice.ensures.value in
    let number : c.len.result ≡ length parts = search rules in
    let own = page_of_matched viewer kind query base store is id parts page matched (c.page_of_items.ensures.total ∙ number) c.page_of_items.ensures.start
    (subst (λ (ps : List Content). AreItems viewer query.wanted kind store.resources ps page.items.items) shown (subst (λ (items : List Content). AreItems viewer query.wanted kind store.resources c.slice_of-shown.result.now items) (ap (λ v. v.items) (sym c.page_of_items.ensures.items)) made)) in
    subst (λ (k : Kind). IsShownPage (views viewer (of_kind Group store.resources) (those_at k id store.resources)) query page) c.kind-kind.ensures own
