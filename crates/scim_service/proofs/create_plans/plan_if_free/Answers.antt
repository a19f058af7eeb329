use Rattle.std.proofs.Common.{subst}
use Rattle.std.specs.Prelude.{Option}
use Rattle.scim_view.specs.View.{viewer_of}
use Rattle.scim_shelf.proofs.Facts.{unused_own}
use Rattle.scim_service.specs.declared.plans.Plan.{Plan}
use Rattle.scim_service.specs.code.Refusals.{IsRefusalToMake}
use Rattle.scim_service.proofs.CreationLemmas.{made_is, none_found}
use Rattle.scim_service.proofs.create_plans.plan_if_free.Goals as goal

pub returns-in-Some-clause-plan : goal.returns-in-Some-clause-plan
returns-in-Some-clause-plan g c store stands honest base is =
    let viewer = viewer_of c.args.viewer.now in
    let refusal = c.in_ok-refusal.ensures.refusal store stands honest base viewer is in
    let told = subst (λ (it : Option Plan). IsRefusalToMake viewer c.args.turn.now store.resources c.args.resource it) c.in-Some.is refusal in
    told c.args.wanted.now

pub returns-clause-plan : goal.returns-clause-plan
returns-clause-plan g c store stands honest base is =
    let cs = store.resources in
    let own = c.args.resource in
    let viewer = viewer_of c.args.viewer.now in
    let later = c.in_ok-text.ensures.read.honest honest in
    let refusal = c.in_ok-refusal.ensures.refusal store stands later base viewer is in
    let free = subst (λ (it : Option Plan). IsRefusalToMake viewer c.args.turn.now cs own it) (none_found c.in_ok-refusal.refusal c.in_default.not-Some) refusal in
    let text = c.in_ok-text.ensures.text store (c.in_ok-refusal.ensures.read.store store stands) honest base is (unused_own own.kind own.id cs free.1) in
    made_is viewer c.args.turn.now cs c.args.wanted.now own c.args.rule c.in_ok-text.text c.in_ok-made.field-0 free.0 free.1 c.requires text c.in_ok-made.ensures
