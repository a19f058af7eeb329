use Rattle.std.proofs.Common.{◌≡◌, sym, ◌∙◌, ap, subst, ℕ, List, [], ◌∷◌, arith}
use Rattle.std.specs.Prelude.{find}
use Rattle.std.proofs.lemmas.Result.{IfOk-weaker}
use Rattle.scim_schema.specs.declared.Kind.{Kind}
use Rattle.scim_cell.specs.Content.{Content}
use Rattle.scim_view.specs.View.{viewer_of}
use Rattle.scim_shelf.specs.Stores.{is_at}
use Rattle.scim_search.specs.PagesById.{at_ids, seen_of, TakesParts, TakesViews}
use Rattle.scim_search.proofs.ListLemmas.{only_first}
use Rattle.scim_search.proofs.PageByIdLemmas.{at_one, seen_both, takes_both}
use Rattle.scim_search.proofs.pages_by_id.+push_with_ids.Goals as goal

pub returns-in_ok-found-in-len1-clause-taken : goal.returns-in_ok-found-in-len1-clause-taken
returns-in_ok-found-in-len1-clause-taken g t c =
    IfOk-weaker c.push_resource.result _ _
    (λ u answer store stands honest base is.
    let viewer = viewer_of c.args.viewer.now in
    let kind = c.args.patterns.now.kind in
    let id : List ℕ = c.id-item.result in
    let ids : c.args.ids.now ≡ id ∷ [] = only_first c.args.ids.now id (omega (arith, c.in-len1.len_at_least, c.in-len1.len_below)) c.id-item.is in
    let found = c.in_ok-found-in-len1 in
    let same = found.ensures.answer store stands (c.push_resource.ensures.read.honest honest) ∙ ap (λ (k : Kind). find (is_at k id) store.resources) c.kind.ensures in
    subst (λ (ds : List Content). TakesViews viewer store.resources ds c.args.listing.now c.push_resource.new.listing c.args.pager.now c.push_resource.new.pager)
    (at_one base store is kind id found.found same ∙ ap (λ (is' : List (List ℕ)). at_ids kind is' store.resources) (sym ids))
    (answer store (found.ensures.read.store store stands) honest base is))
    c.push_resource.ensures.taken

pub returns-in_ok-push_with_ids-in_default-clause-taken : goal.returns-in_ok-push_with_ids-in_default-clause-taken
returns-in_ok-push_with_ids-in_default-clause-taken g t c =
    IfOk-weaker c.push_with_ids-in_default.result _ _
    (λ u answer store stands honest base is told.
    let viewer = viewer_of c.args.viewer.now in
    let kind = c.args.patterns.now.kind in
    let first = c.in_ok-push_with_ids-in_default in
    let one = first.ensures.taken store stands (c.push_with_ids-in_default.ensures.read.honest honest) base is told in
    let other = answer store (first.ensures.read.store store stands) honest base is one.0 in (
      other.0,
      subst (λ (ps : List Content). TakesParts c.args.pager.now ps c.push_with_ids-in_default.new.pager) (seen_both viewer kind c.args.ids.now c.split_at.result.0.now c.split_at.result.1.now store.resources c.split_at.ensures.by_index.0)
          (takes_both c.args.pager.now c.push_with_ids.new.pager c.push_with_ids-in_default.new.pager (seen_of viewer store.resources (at_ids kind c.split_at.result.0.now store.resources)) (seen_of viewer store.resources (at_ids kind c.split_at.result.1.now store.resources)) one.1 other.1),
    ))
    c.push_with_ids-in_default.ensures.taken
