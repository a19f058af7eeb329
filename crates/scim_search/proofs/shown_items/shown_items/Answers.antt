use Rattle.std.proofs.Common.{rules, ◌≡◌, ◌∙◌, ◌++◌, [], ap, map, List}
use Rattle.scim_schema.specs.declared.Kind.TheVariants.{Group}
use Rattle.scim_cell.specs.Content.{Content}
use Rattle.scim_cell.specs.Kinds.{of_kind}
use Rattle.scim_view.specs.View.{viewer_of}
use Rattle.scim_search.specs.ShownItems.{item}
use Rattle.scim_search.proofs.shown_items.shown_items.Goals as goal

pub returns-clause-items : goal.returns-clause-items
returns-clause-items g c store stands honest base is builder found ids =
    let viewer = viewer_of c.args.builder.viewer.now in
    let none : c.in_ok-items.items.items ≡ [] = search rules in
    c.in_ok-push_items.ensures.items store stands honest base found is builder (c.in_ok-listing.ensures store.resources) ids
    ∙ ap (λ (ps : List Content). ps ++ map (λ x. item viewer c.args.builder.wanted.now (of_kind Group store.resources) x.own) found) none
