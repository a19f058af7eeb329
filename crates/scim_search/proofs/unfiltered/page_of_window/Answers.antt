use Rattle.std.proofs.Common.{rules, ◌≡◌, sym, ◌∙◌, subst, ap, List, map, ◌++◌, ℕ, ◌-◌}
use Rattle.scim_schema.specs.declared.Kind.TheVariants.{Group}
use Rattle.scim_cell.specs.Content.{Content}
use Rattle.scim_cell.specs.Kinds.{of_kind}
use Rattle.scim_view.specs.View.{viewer_of}
use Rattle.scim_view.specs.Groups.{views, with_groups}
use Rattle.scim_query.specs.Pages.{first_position}
use Rattle.scim_shelf.specs.Stores.{window}
use Rattle.scim_search.specs.declared.unfiltered.IdVisitor.{IdVisitor}
use Rattle.scim_search.specs.declared.shown_items.ItemBuilder.{ItemBuilder}
use Rattle.scim_search.specs.ShownItems.{AreItems, IsItemBuilder}
use Rattle.scim_search.proofs.ShownPageLemmas.{shown_by}
use Rattle.scim_search.proofs.UnfilteredLemmas.{took_ids, window_items, window_page}
use Rattle.scim_search.proofs.unfiltered.page_of_window.Goals as goal

pub returns-clause-page : goal.returns-clause-page
returns-clause-page g c store stands honest base is =
    let v = viewer_of c.args.viewer.now in
    let kind = c.args.kind in
    let query = c.args.query.now in
    let groups = of_kind Group store.resources in
    let seen = λ (d : Content) (own : d.kind ≡ kind). c.requires.all.seen v c.requires.patterns d (own ∙ sym c.requires.kind) in
    let read = c.in_ok-total.ensures.answer store stands (c.in_ok-items.ensures.read.honest honest) in
    let first : IdVisitor = record { items = c.new.result } in
    let last = c.each_from.new.visitor in
    let ids : List Content → List (List ℕ) = λ ps. map (λ (p : Content). p.id) ps in
    let all = of_kind kind store.resources in
    let taken = took_ids first (window c.saturating_sub-skipped.result query.count all) last read.took in
    let found : ids c.as_slice.result.now ≡ ids (window c.saturating_sub-skipped.result query.count all) =
    ap ids c.as_slice.ensures.value ∙ taken ∙ ap (λ (ps : List Content). ids ps ++ ids (window c.saturating_sub-skipped.result query.count all)) c.new.ensures.items in
    let builder : IsItemBuilder store.resources c.new-builder.result
    = subst (IsItemBuilder store.resources) (sym c.new-builder.ensures) (record { patterns = c.requires.patterns; cached = c.new-cached.ensures v kind store.resources }) in
    let made = subst (λ (s : ItemBuilder). AreItems (viewer_of s.viewer.now) s.wanted.now s.kind store.resources c.as_slice.result.now c.in_ok-items.items.items) c.new-builder.ensures
    (c.in_ok-items.ensures.items store (c.in_ok-total.ensures.read.store store stands) honest base is builder) in
    let start : c.max.result ≡ first_position query.start = search rules in
    let items = window_items v kind query base store is seen c.as_slice.result.now c.in_ok-items.items.items (rw c.saturating_sub-skipped.ensures at found) made in
    shown_by (views v groups all) query (with_groups v groups) (window (query.start - 1) query.count all) _
    (λ whole total begins has. window_page v kind query base store is seen whole c.requires.all.no_filter c.requires.all.no_key (total ∙ read.number) (begins ∙ start) has)
    items
