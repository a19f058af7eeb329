use Rattle.scim_view.specs.View.{viewer_of}
use Rattle.scim_service.specs.Step.{view_of_kind}
use Rattle.scim_service.proofs.PlanLemmas.{listed_is}
use Rattle.scim_service.proofs.plans.plan_search.Goals as goal

pub returns-clause-plan : goal.returns-clause-plan
returns-clause-plan g c store stands honest base is =
    let viewer = viewer_of c.args.viewer.now in
    let page = c.in_ok-page.ensures.page store stands honest base is in
    listed_is viewer c.args.turn.now store.resources c.args.query.now c.in_ok-text.text c.in_ok-row_of.field-0
    (c.in_ok-text.ensures (view_of_kind viewer c.args.turn.now store.resources) c.args.query.now page) c.in_ok-row_of.ensures
