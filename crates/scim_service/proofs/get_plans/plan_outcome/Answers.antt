use Rattle.std.proofs.Common.{◌∙◌, ap, subst}
use Rattle.std.specs.Prelude.{Option, Some}
use Rattle.std.proofs.lemmas.Result.{IfOk-weaker}
use Rattle.scim_cell.specs.Content.{Content}
use Rattle.scim_view.specs.View.{viewer_of}
use Rattle.scim_service.specs.declared.get_plans.Outcome.{Outcome}
use Rattle.scim_service.specs.Step.{get_plan, plan_for_seen}
use Rattle.scim_service.specs.code.Outcomes.{IsLent}
use Rattle.scim_service.proofs.OutcomeLemmas.{told_outcome, copied_outcome}
use Rattle.scim_service.proofs.get_plans.plan_outcome.Goals as goal

pub returns-in_ok-told-in-Some-Told-clause-plan : goal.returns-in_ok-told-in-Some-Told-clause-plan
returns-in_ok-told-in-Some-Told-clause-plan g c store stands honest base is found lent =
    let viewer = viewer_of c.args.viewer.now in
    let wanted = c.args.wanted.now in
    let own = c.in-Some-Told in
    c.in_ok-told-in-Some-Told.ensures
    ∙ told_outcome viewer wanted c.args.turn.now store.resources found own.seen own.text (subst (λ (o : Option Outcome). IsLent viewer wanted found o) (own.is ∙ ap (λ (x : Outcome). Some x) own.field-0-is) lent)

pub returns-in-Some-Copy-clause-plan : goal.returns-in-Some-Copy-clause-plan
returns-in-Some-Copy-clause-plan g c =
    let viewer = viewer_of c.args.viewer.now in
    let wanted = c.args.wanted.now in
    let turn = c.args.turn.now in
    let own = c.in-Some-Copy in
    IfOk-weaker c.plan_show.result _ _
    (λ plan answer store stands honest base is found lent.
    answer store stands honest base is
    ∙ ap (λ (o : Option Content). plan_for_seen viewer turn (get_plan viewer turn store.resources wanted) o)
    (copied_outcome viewer wanted found own.resource (subst (λ (o : Option Outcome). IsLent viewer wanted found o) (own.is ∙ ap (λ (x : Outcome). Some x) own.field-0-is) lent)))
    c.plan_show.ensures.plan
