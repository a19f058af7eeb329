use Rattle.std.proofs.Common.{◌≡◌, sym, ◌∙◌, ap, subst, ℕ, List, [], ◌++◌}
use Rattle.std.specs.Prelude.{Option, Some, find}
use Rattle.scim_cell.specs.Content.{Content}
use Rattle.scim_view.specs.declared.listing_groups.ListingGroups.{ListingGroups}
use Rattle.scim_view.specs.Groups.{and_those}
use Rattle.scim_view.specs.Listings.{AreListing}
use Rattle.scim_view.specs.View.{viewer_of}
use Rattle.scim_shelf.specs.Stores.{is_at}
use Rattle.scim_search.proofs.ShownItemLemmas.{seen_item, took_item}
use Rattle.scim_search.proofs.shown_items.push_item.Goals as goal

pub returns-clause-items : goal.returns-clause-items
returns-clause-items g c store stands honest base x is builder same tells =
    let v = viewer_of c.args.builder.viewer.now in
    let kind = c.args.builder.kind in
    let wanted = c.args.builder.wanted.now in
    let gathered = c.in_ok-gather_shown.ensures.groups store stands (c.in_ok-lend_by_id.ensures.read.honest honest) base v x.own is x.part x.is_kind same tells in
    let told = gathered.1 in
    let at : find (is_at kind c.args.id) store.resources ≡ Some x.own = ap (λ (id : List ℕ). find (is_at kind id) store.resources) (sym same) ∙ x.found in
    let lent = c.in_ok-lend_by_id.ensures.answer store (c.in_ok-gather_shown.ensures.read.store store stands) honest in
    let taken = took_item _ _ (find (is_at kind c.args.id) store.resources) x.own lent at in
    let listed = subst (λ (groups : ListingGroups). AreListing v x.own.id told.groups groups) (sym c.groups.ensures) told.gathered in
    let made = taken store.resources told.groups builder x.found listed in (
      gathered.0,
      c.in_ok-push_if_seen.ensures
          ∙ ap (λ (o : Option Content). c.args.items.now.items ++ and_those o [])
          (c.end.ensures ∙ made ∙ seen_item v wanted told.groups x.own x.seen ∙ ap (λ (p : Content). Some p) told.same),
    )
