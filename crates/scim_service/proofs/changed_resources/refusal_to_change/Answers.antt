use Rattle.std.proofs.Common.{◌≡◌, true, false, sym, ◌∙◌, ap, List, ℕ}
use Rattle.std.specs.Prelude.{None, Some}
use Rattle.scim_policy.specs.Access.{widening}
use Rattle.scim_policy.specs.PatternTable.{access_in}
use Rattle.scim_view.specs.View.{viewer_of}
use Rattle.scim_shelf.specs.Stores.{is_taken, without}
use Rattle.scim_service.specs.Step.{access_to}
use Rattle.scim_service.proofs.ReplaceLemmas.{taken_is, widened_is}
use Rattle.scim_service.proofs.changed_resources.refusal_to_change.Goals as goal

pub returns-then-branch-clause-refusal : goal.returns-then-branch-clause-refusal
returns-then-branch-clause-refusal g c store stands honest base is wanted changed =
    let cs = store.resources in
    let own = c.args.resource.now in
    let taken : is_taken (without own.id cs) own ≡ true
    = ap (λ (id : List ℕ). is_taken (without id cs) own) (sym c.id.ensures) ∙ sym (c.in_ok-has_taken_name.ensures.answer store stands honest base is) ∙ c.if-branch.true in
    c.in_ok-plan.ensures ∙ taken_is (viewer_of c.args.viewer.now) c.args.turn.now cs wanted (access_in c.args.before.now) changed own taken

pub returns-in_ok-plan-in-Some-clause-refusal : goal.returns-in_ok-plan-in-Some-clause-refusal
returns-in_ok-plan-in-Some-clause-refusal g c store stands honest base is wanted changed =
    let cs = store.resources in
    let own = c.args.resource.now in
    let viewer = viewer_of c.args.viewer.now in
    let before = access_in c.args.before.now in
    let free : is_taken (without own.id cs) own ≡ false
    = ap (λ (id : List ℕ). is_taken (without id cs) own) (sym c.id.ensures) ∙ sym (c.in_ok-has_taken_name.ensures.answer store stands honest base is) ∙ c.if-branch.false in
    let opens : widening own.kind before (access_to viewer own) ≡ Some (c.in-Some.field-0-0, c.in-Some.leaf, c.in-Some.decision)
    = sym (c.in_ok-leaf.ensures ∙ (λ i. widening (c.kind.ensures i) before (c.requires i))) ∙ c.in-Some.is in
    c.in_ok-plan-in-Some.ensures
    ∙ widened_is viewer c.args.turn.now cs wanted before changed own c.in-Some.field-0-0 c.in-Some.leaf c.in-Some.decision free opens

pub returns-in-None-clause-refusal : goal.returns-in-None-clause-refusal
returns-in-None-clause-refusal g c store stands honest base is =
    let cs = store.resources in
    let own = c.args.resource.now in
    let viewer = viewer_of c.args.viewer.now in
    let before = access_in c.args.before.now in
    let free : is_taken (without own.id cs) own ≡ false
    = ap (λ (id : List ℕ). is_taken (without id cs) own) (sym c.id.ensures) ∙ sym (c.in_ok-has_taken_name.ensures.answer store stands honest base is) ∙ c.if-branch.false in
    let narrow : widening own.kind before (access_to viewer own) ≡ None
    = sym (c.in_ok-leaf.ensures ∙ (λ i. widening (c.kind.ensures i) before (c.requires i))) ∙ c.in-None.is in
    (free, narrow)
