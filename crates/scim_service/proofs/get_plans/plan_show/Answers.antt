use Rattle.std.proofs.Common.{◌∙◌, refl}
use Rattle.std.specs.Prelude.{Some}
use Rattle.scim_view.specs.View.{viewer_of}
use Rattle.scim_service.specs.Step.{allowed_row, get_plan}
use Rattle.scim_service.proofs.PlanLemmas.{got_is, id_read}
use Rattle.scim_service.proofs.ReplaceLemmas.{hidden_is}
use Rattle.scim_service.proofs.get_plans.plan_show.Goals as goal

pub returns-then-not-seen-clause-plan : goal.returns-then-not-seen-clause-plan
returns-then-not-seen-clause-plan g c store stands honest base is =
    let viewer = viewer_of c.args.viewer.now in
    let own = c.args.resource.now in
    let decides = id_read c.in_ok-patterns.patterns viewer own c.simple.result c.whole-seen.result c.whole-seen.ensures c.simple.ensures c.in_ok-patterns.ensures in
    c.in_ok-hidden.ensures
    ∙ hidden_is viewer c.args.turn.now (get_plan viewer c.args.turn.now store.resources c.args.wanted.now) own (Some own) c.whole-seen.result decides c.if-not-seen.true refl

pub returns-clause-plan : goal.returns-clause-plan
returns-clause-plan g c store stands honest base is =
    let viewer = viewer_of c.args.viewer.now in
    let own = c.args.resource.now in
    let decides = id_read c.in_ok-patterns.patterns viewer own c.simple.result c.whole-seen.result c.whole-seen.ensures c.simple.ensures c.in_ok-patterns.ensures in
    c.in_ok-told.ensures
    ∙ got_is viewer c.args.turn.now store.resources c.args.wanted.now own c.in_ok-text.text (allowed_row c.args.turn.now c.whole-seen.result.rule) c.whole-seen.result
    (c.in_ok-text.ensures.text store stands honest base is) refl decides c.if-not-seen.false
