use Rattle.std.proofs.Common.{◌≡◌, sym, ◌∙◌, ap, filter, subst, subst₂, false, All, List, ℕ}
use Rattle.std.proofs.lemmas.Result.{IfOk-weaker}
use Rattle.scim_schema.specs.declared.Kind.{Kind}
use Rattle.scim_schema.specs.declared.Unit.{Unit as AttributeUnit}
use Rattle.scim_schema.specs.Mutability.{is_fixed}
use Rattle.scim_schema.specs.Units.{units}
use Rattle.scim_policy.specs.Access.{Access}
use Rattle.scim_policy.specs.PatternTable.{access_in}
use Rattle.scim_view.specs.View.{viewer_of}
use Rattle.scim_shelf.specs.Stores.{AreOf}
use Rattle.scim_service.specs.Step.{access_to, is_writable, writable, unique_change_plan, writable_replacement_plan}
use Rattle.scim_service.proofs.ReplaceLemmas.{writable_free, written_is}
use Rattle.scim_service.proofs.StepLemmas.{replaced_kind}
use Rattle.scim_service.proofs.put_plans.plan_allowed.Goals as goal

pub replace-requires-clause-writable : goal.replace-requires-clause-writable
replace-requires-clause-writable g c =
    let kind = c.args.resource.kind in
    let rights = access_in c.args.rights.now in
    let own : c.as_slice.result.now ≡ filter (is_writable kind rights) c.units.result.now
    = c.as_slice.ensures.value ∙ c.in_ok-writable.ensures ∙ ap (λ (k : Kind). filter (is_writable k rights) c.units.result.now) c.kind-kind.ensures in
    subst (λ (us : List AttributeUnit). All (λ u. is_fixed kind u ≡ false) us) (sym own) (writable_free kind rights c.units.result.now)

pub returns-in-Ok-clause-plan : goal.returns-in-Ok-clause-plan
returns-in-Ok-clause-plan g c =
    let viewer = viewer_of c.args.viewer.now in
    let turn = c.args.turn.now in
    let draft = c.args.draft.now in
    let wanted = c.args.wanted.now in
    let own = c.args.resource in
    let next = c.in-Ok.changed in
    let us = c.as_slice.result.now in
    let all : c.units.result.now ≡ units own.kind = c.units.ensures ∙ ap units c.kind-kind.ensures in
    let writes : us ≡ writable own.kind (access_to viewer own)
    = c.as_slice.ensures.value ∙ c.in_ok-writable.ensures ∙ (λ i. filter (is_writable (c.kind-kind.ensures i) (c.requires.rights.access i)) (all i)) in
    IfOk-weaker c.plan_changed.result _ _
    (λ plan answer store stands honest base is own_kind.
    (let same = replaced_kind draft us turn.moment own next.resource c.in-Ok.ensures.value in
    answer store stands honest base is (subst₂ (λ (k : Kind) (i : List ℕ). AreOf k i store.resources) (sym same.0) (sym same.1) own_kind)
    ∙ ap (λ (a : Access). unique_change_plan viewer turn store.resources wanted a next.changed next.resource) c.requires.rights.access
    ∙ written_is viewer turn store.resources draft wanted own us next.changed next.resource c.in-Ok.ensures.value c.in-Ok.ensures.changed
    ∙ ap (λ (ws : List AttributeUnit). writable_replacement_plan viewer turn store.resources draft wanted own ws) writes))
    c.plan_changed.ensures.plan
