use Rattle.std.proofs.Common.{◌≡◌, true, sym, ◌∙◌, rules}
use Rattle.std.specs.Prelude.{None}
use Rattle.std.proofs.lemmas.Result.{IfOk-weaker}
use denote.Enum.Bare.{sameb}
use Rattle.scim_schema.specs.contracts.Kind.{the_type as the_kind}
use Rattle.scim_schema.specs.Units.{units}
use Rattle.scim_view.specs.View.{viewer_of, visible}
use Rattle.scim_service.specs.Step.{access_to, first_unit_denial, replacement_plan}
use Rattle.scim_search.proofs.Facts.{not_false}
use Rattle.scim_service.proofs.ReplaceLemmas.{replacing_is}
use Rattle.scim_service.proofs.put_plans.plan_seen.Goals as goal

pub returns-in-None-clause-plan : goal.returns-in-None-clause-plan
returns-in-None-clause-plan g c =
    let viewer = viewer_of c.args.viewer.now in
    let draft = c.args.draft.now in
    let own = c.args.resource in
    let fits : sameb the_kind draft.kind own.kind ≡ true
    = sym (λ i. sameb the_kind (c.kind.ensures i) (c.kind-2.ensures i)) ∙ not_false (sameb the_kind c.kind.result c.kind-2.result) (sym c.ne.ensures ∙ c.if-ne.false) in
    let none : first_unit_denial (access_to viewer own) draft (visible viewer own) (units draft.kind) ≡ None = sym c.in_ok-leaf.ensures ∙ c.in-None.is in
    IfOk-weaker c.plan_allowed.result _ _
    (λ plan answer store stands honest base is own_kind.
    answer store stands honest base is own_kind ∙ replacing_is viewer c.args.turn.now store.resources draft c.args.wanted.now own fits none)
    c.plan_allowed.ensures.plan

-- by name, so that a body that breaks it is refused at once
pub returns-in_ok-denied-in-Some-clause-plan : goal.returns-in_ok-denied-in-Some-clause-plan
unfolding replacement_plan
returns-in_ok-denied-in-Some-clause-plan g c = search rules
