use Rattle.std.proofs.Common.{refl, sym, ◌∙◌, ap}
use Rattle.std.specs.Prelude.{Some}
use Rattle.scim_cell.specs.Content.{Content}
use Rattle.scim_view.specs.View.{viewer_of}
use Rattle.scim_search.proofs.WalkLemmas.{seen_by}
use Rattle.scim_search.proofs.shown_items.ItemBuilder.item_by.Goals as goal

pub returns-then-not-shows_id : goal.returns-then-not-shows_id
returns-then-not-shows_id c gathered own listed =
    let seen = c.shows_id.ensures ∙ seen_by (viewer_of c.args.self.now.viewer.now) c.args.resource.now c.args.patterns.now own in
    rw (sym seen ∙ c.if-not-shows_id.true) refl

pub returns : goal.returns
returns c gathered own listed =
    let seen = c.shows_id.ensures ∙ seen_by (viewer_of c.args.self.now.viewer.now) c.args.resource.now c.args.patterns.now own in
    rw (sym seen ∙ c.if-not-shows_id.false) (ap (λ (p : Content). Some p) (c.in_ok-item.ensures gathered own listed))
