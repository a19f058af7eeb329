use Rattle.std.proofs.Common.{◌≡◌, sym, ◌∙◌, ap, ◌∷◌, map, drop}
use Rattle.std.proofs.lemmas.Result.{IfOk-weaker}
use Rattle.scim_schema.specs.declared.Kind.TheVariants.{Group}
use Rattle.scim_cell.specs.Content.{Content}
use Rattle.scim_cell.specs.Kinds.{of_kind}
use Rattle.scim_view.specs.View.{viewer_of}
use Rattle.scim_search.specs.Visits.{Tells}
use Rattle.scim_search.proofs.ListLemmas.{first_and_rest, rest_whole}
use Rattle.scim_search.proofs.WalkLemmas.{pushed_more}
use Rattle.scim_search.proofs.shown_items.+push_items.Goals as goal

pub returns-in_ok-push_item-in-len1-up-clause-items : goal.returns-in_ok-push_item-in-len1-up-clause-items
returns-in_ok-push_item-in-len1-up-clause-items g t c =
    IfOk-weaker c.push_items.result _ _
    (λ u answer store stands honest base found is builder tells ids.
    let viewer = viewer_of c.args.builder.viewer.now in
    let parts = c.args.parts.now in
    let part : Content = c.item-item.result in
    let split : parts ≡ part ∷ drop 1 parts = first_and_rest parts part c.in-len1-up.len_at_least c.item-item.is in
    let pushed = c.push_items.ensures.read.honest honest in
    let stands_pushed = c.in_ok-push_item-in-len1-up.ensures.read.store store stands in
    pushed_more viewer c.args.builder.wanted.now c.args.builder.kind store.resources (of_kind Group store.resources) (Tells viewer store.resources c.push_item.new.listing) part (drop 1 parts) found c.args.items.now.items c.push_item.new.items.items c.push_items.new.items.items
    (sym (ap (map (λ (p : Content). p.id)) split) ∙ ids)
    (λ x own. c.in_ok-push_item-in-len1-up.ensures.items store stands pushed base x is builder (own ∙ sym c.id.ensures) tells)
    (λ told xs more. answer store stands_pushed honest base xs is builder told (ap (map (λ (p : Content). p.id)) (rest_whole parts) ∙ more)))
    c.push_items.ensures.items
