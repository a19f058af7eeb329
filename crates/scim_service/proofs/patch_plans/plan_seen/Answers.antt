use Rattle.std.proofs.Common.{◌≡◌, true, sym, ◌∙◌, ap}
use Rattle.std.specs.Prelude.{None}
use Rattle.std.proofs.lemmas.Result.{IfOk-weaker}
use denote.Enum.Bare.{sameb}
use Rattle.scim_schema.specs.contracts.Kind.{the_type as the_kind}
use Rattle.scim_patch_steps.specs.Patch.{touched}
use Rattle.scim_patch_steps.specs.Kept.{patch_of}
use Rattle.scim_policy.specs.Access.{Access}
use Rattle.scim_view.specs.View.{viewer_of}
use Rattle.scim_service.specs.Step.{access_to, first_forbidden}
use Rattle.scim_search.proofs.Facts.{not_false}
use Rattle.scim_service.proofs.PatchLemmas.{patching_is}
use Rattle.scim_service.proofs.patch_plans.plan_seen.Goals as goal

pub returns-in-None-clause-plan : goal.returns-in-None-clause-plan
returns-in-None-clause-plan g c =
    let viewer = viewer_of c.args.viewer.now in
    let patch = patch_of c.args.patch.now in
    let own = c.args.resource in
    let fits : sameb the_kind patch.kind own.kind ≡ true
    = sym (λ i. sameb the_kind (c.kind.ensures i) (c.kind-2.ensures i)) ∙ not_false (sameb the_kind c.kind.result c.kind-2.result) (sym c.ne.ensures ∙ c.if-ne.false) in
    let none : first_forbidden patch.kind (access_to viewer own) (touched patch) ≡ None
    = ap (λ (a : Access). first_forbidden patch.kind a (touched patch)) (sym c.requires.access) ∙ sym c.first_forbidden.ensures ∙ c.in-None.is in
    IfOk-weaker c.plan_allowed.result _ _
    (λ plan answer store stands honest base is own_kind.
    answer store stands honest base is own_kind ∙ patching_is viewer c.args.turn.now store.resources patch c.args.wanted.now own fits none)
    c.plan_allowed.ensures.plan
