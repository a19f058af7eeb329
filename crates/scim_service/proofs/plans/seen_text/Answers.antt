use Rattle.std.proofs.Common.{◌∙◌, []}
use Rattle.scim_schema.specs.declared.Kind.TheVariants.{Group}
use Rattle.scim_cell.specs.Kinds.{of_kind}
use Rattle.scim_view.specs.View.{viewer_of}
use Rattle.scim_service.proofs.PlanLemmas.{text_with, text_without}
use Rattle.scim_service.proofs.plans.seen_text.Goals as goal

pub returns-then-not-shows_groups-clause-text : goal.returns-then-not-shows_groups-clause-text
returns-then-not-shows_groups-clause-text g c store stands honest base is =
    let viewer = viewer_of c.args.viewer.now in
    let own = c.args.resource.now in
    let hidden = c.shows_groups.ensures c.if-not-shows_groups.true in
    c.in_ok-text.ensures [] (rw c.id.ensures at c.new-none.ensures viewer)
    ∙ text_without viewer [] (of_kind Group store.resources) c.args.wanted.now own (hidden viewer [] (of_kind Group store.resources))

pub returns-clause-text : goal.returns-clause-text
returns-clause-text g c store stands honest base is =
    let viewer = viewer_of c.args.viewer.now in
    let told = c.in_ok-groups.ensures.groups store stands honest base is in
    c.in_ok-resource_text.ensures told.groups told.gathered
    ∙ text_with viewer told.groups (of_kind Group store.resources) c.args.wanted.now c.args.resource.now told.same
