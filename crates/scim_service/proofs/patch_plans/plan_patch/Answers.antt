use Rattle.std.proofs.Common.{subst}
use Rattle.std.proofs.lemmas.Result.{IfOk-weaker}
use Rattle.scim_patch_steps.specs.Kept.{patch_of}
use Rattle.scim_view.specs.View.{viewer_of}
use Rattle.scim_service.specs.declared.reached_resources.Reached.{Reached}
use Rattle.scim_service.specs.Step.{patch_plan}
use Rattle.scim_service.specs.code.Reached.{HasRights, IsReached}
use Rattle.scim_service.proofs.ReplaceLemmas.{seen_is}
use Rattle.scim_service.proofs.StepLemmas.{sought_own}
use Rattle.scim_service.proofs.patch_plans.plan_patch.Goals as goal

pub plan_seen-requires : goal.plan_seen-requires
plan_seen-requires g c = subst (λ (it : Reached). HasRights (viewer_of c.args.viewer.now) it) c.in-Seen.is c.in_ok-reached.ensures.rights

pub returns-in-Seen-clause-plan : goal.returns-in-Seen-clause-plan
returns-in-Seen-clause-plan g c =
    let viewer = viewer_of c.args.viewer.now in
    let turn = c.args.turn.now in
    let own = c.in-Seen.resource in
    IfOk-weaker c.plan_seen.result _ _
    (λ plan answer store stands honest base is.
    (let seen = subst (λ (it : Reached). IsReached viewer turn store.resources it) c.in-Seen.is (c.in_ok-reached.ensures.answer store stands (c.plan_seen.ensures.read.honest honest) base is) in
    let made = answer store (c.in_ok-reached.ensures.read.store store stands) honest base is (sought_own turn store.resources own is.keyed seen.0) in
    seen_is viewer turn store.resources (patch_plan viewer turn store.resources (patch_of c.args.patch.now) c.args.wanted.now) own plan made seen.1 seen.0))
    c.plan_seen.ensures.plan

pub returns-in-Told-clause-plan : goal.returns-in-Told-clause-plan
returns-in-Told-clause-plan g c store stands honest base is =
    let viewer = viewer_of c.args.viewer.now in
    let turn = c.args.turn.now in
    let told = subst (λ (it : Reached). IsReached viewer turn store.resources it) c.in-Told.is (c.in_ok-reached.ensures.answer store stands honest base is) in
    told (patch_plan viewer turn store.resources (patch_of c.args.patch.now) c.args.wanted.now)
