use Rattle.std.proofs.Common.{sym, ◌∙◌, ap, subst₂, List, ℕ}
use Rattle.std.proofs.lemmas.Result.{IfOk-weaker}
use Rattle.scim_schema.specs.declared.Kind.{Kind}
use Rattle.scim_patch_steps.specs.Kept.{patch_of}
use Rattle.scim_policy.specs.Access.{Access}
use Rattle.scim_view.specs.View.{viewer_of}
use Rattle.scim_shelf.specs.Stores.{AreOf}
use Rattle.scim_service.specs.Step.{unique_change_plan}
use Rattle.scim_service.proofs.PatchLemmas.{patched_is}
use Rattle.scim_service.proofs.StepLemmas.{patched_kind}
use Rattle.scim_service.proofs.patch_plans.plan_allowed.Goals as goal

pub returns-in-Ok-clause-plan : goal.returns-in-Ok-clause-plan
returns-in-Ok-clause-plan g c =
    let viewer = viewer_of c.args.viewer.now in
    let turn = c.args.turn.now in
    let patch = patch_of c.args.patch.now in
    let wanted = c.args.wanted.now in
    let own = c.args.resource in
    let next = c.in-Ok.changed in
    IfOk-weaker c.plan_changed.result _ _
    (λ plan answer store stands honest base is own_kind.
    (let same = patched_kind patch turn.moment own next.resource next.changed (sym c.in-Ok.ensures.outcome) in
    answer store stands honest base is (subst₂ (λ (k : Kind) (i : List ℕ). AreOf k i store.resources) (sym same.0) (sym same.1) own_kind)
    ∙ ap (λ (a : Access). unique_change_plan viewer turn store.resources wanted a next.changed next.resource) c.requires.rights.access
    ∙ patched_is viewer turn store.resources patch wanted own next.resource next.changed c.in-Ok.ensures.outcome))
    c.plan_changed.ensures.plan
