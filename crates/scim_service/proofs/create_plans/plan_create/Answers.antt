use Rattle.std.proofs.Common.{◌≡◌, true, sym, ◌∙◌}
use Rattle.std.specs.Prelude.{None}
use Rattle.std.proofs.lemmas.Result.{IfOk-weaker}
use Rattle.scim_policy.specs.Table.{decision}
use Rattle.scim_view.specs.View.{viewer_of}
use Rattle.scim_service.specs.Step.{is_for, first_denied}
use Rattle.scim_service.proofs.CreationLemmas.{none_denied, creating_is}
use Rattle.scim_service.proofs.create_plans.plan_create.Goals as goal

pub returns-clause-plan : goal.returns-clause-plan
returns-clause-plan g c =
    let viewer = viewer_of c.args.viewer.now in
    let turn = c.args.turn.now in
    let draft = c.args.draft.now in
    let own = c.in_ok-resource.resource in
    let for : is_for turn draft ≡ true = sym c.is_for.ensures ∙ c.if-not-is_for.false in
    let none : first_denied viewer draft own ≡ None
    = none_denied viewer draft own (decision c.in_ok-decisions.decisions) c.first_denied.result c.in_ok-decisions.ensures c.first_denied.ensures c.in_default.not-Some in
    IfOk-weaker c.plan_if_free.result _ _
    (λ plan answer store stands honest base is.
    answer store stands honest base is ∙ creating_is viewer turn store.resources draft c.args.wanted.now own for c.in_ok-resource.ensures.value none)
    c.plan_if_free.ensures.plan
