use Rattle.std.proofs.Common.{refl, sym, ◌∙◌, ap}
use Rattle.std.specs.Prelude.{Some}
use Rattle.scim_cell.specs.Content.{Content}
use Rattle.scim_view.specs.View.{viewer_of}
use Rattle.scim_search.proofs.WalkLemmas.{seen_by}
use Rattle.scim_search.proofs.groups_of_resource.view_beside.Goals as goal

pub returns-then-not-shows_id-clause-part : goal.returns-then-not-shows_id-clause-part
returns-then-not-shows_id-clause-part g c store stands honest base is own tells =
    let seen = c.shows_id.ensures ∙ seen_by (viewer_of c.args.viewer.now) c.args.resource.now c.args.patterns.now own in
    (tells, rw (sym seen ∙ c.if-not-shows_id.true) refl)

pub returns-clause-part : goal.returns-clause-part
returns-clause-part g c store stands honest base is own tells =
    let seen = c.shows_id.ensures ∙ seen_by (viewer_of c.args.viewer.now) c.args.resource.now c.args.patterns.now own in
    let gathered = c.in_ok-gather_groups.ensures.groups store stands honest base (viewer_of c.args.viewer.now) c.args.resource.now is (sym c.kind.ensures) (sym c.id.ensures) tells in
    let told = gathered.1 in (
      gathered.0,
      rw (sym seen ∙ c.if-not-shows_id.false)
          (ap (λ (p : Content). Some p) (c.in_ok-part.ensures told.groups own (rw c.groups.ensures told.gathered) ∙ told.same)),
    )
