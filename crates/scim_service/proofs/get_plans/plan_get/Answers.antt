use Rattle.std.proofs.Common.{sym, ◌∙◌, ap, refl, ℕ, List}
use Rattle.std.specs.Prelude.{Option, find, option_and_then}
use Rattle.std.proofs.lemmas.Result.{IfOk-weaker}
use Rattle.scim_cell.specs.Content.{Content}
use Rattle.scim_view.specs.View.{viewer_of}
use Rattle.scim_shelf.specs.Stores.{is_at}
use Rattle.scim_service.specs.Step.{get_plan, plan_for_seen}
use Rattle.scim_service.proofs.OutcomeLemmas.{lent}
use Rattle.scim_service.proofs.get_plans.plan_get.Goals as goal

pub returns-clause-plan : goal.returns-clause-plan
returns-clause-plan g c =
    let viewer = viewer_of c.args.viewer.now in
    let turn = c.args.turn.now in
    let kind = turn.request.kind in
    IfOk-weaker c.plan_outcome.result _ _
    (λ plan answer store stands honest base is.
    let found = find (is_at kind c.in-Some.id) store.resources in
    let taken = c.in_ok-lend_by_id.ensures.answer store stands (c.plan_outcome.ensures.read.honest honest) in
    let named = ap (λ (o : Option (List ℕ)). option_and_then (λ id. find (is_at kind id) store.resources) o) (sym c.in-Some.is) in
    answer store (c.in_ok-lend_by_id.ensures.read.store store stands) honest base is found (rw c.end.ensures (lent _ _ found taken refl))
    ∙ ap (λ (o : Option Content). plan_for_seen viewer turn (get_plan viewer turn store.resources c.args.wanted.now) o) named)
    c.plan_outcome.ensures.plan
