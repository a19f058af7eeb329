use Rattle.std.proofs.Common.{◌≡◌, true, false, sym, ◌∙◌, ap}
use Rattle.scim_shelf.specs.Stores.{is_taken, is_used}
use Rattle.scim_service.proofs.CreationLemmas.{taken_refused, used_refused}
use Rattle.scim_service.proofs.create_plans.refusal_to_make.Goals as goal

pub returns-then-branch-clause-refusal : goal.returns-then-branch-clause-refusal
returns-then-branch-clause-refusal g c store stands honest base viewer is wanted =
    let cs = store.resources in
    let own = c.args.resource.now in
    let taken : is_taken cs own ≡ true = sym (c.in_ok-has_taken_name.ensures.answer store stands honest base is) ∙ c.if-branch.true in
    c.in_ok-plan.ensures ∙ taken_refused viewer c.args.turn.now cs wanted own taken

pub returns-then-branch-2-clause-refusal : goal.returns-then-branch-2-clause-refusal
returns-then-branch-2-clause-refusal g c store stands honest base viewer is wanted =
    let cs = store.resources in
    let own = c.args.resource.now in
    let earlier = c.in_ok-has_used_id.ensures.read.honest honest in
    let free : is_taken cs own ≡ false = sym (c.in_ok-has_taken_name.ensures.answer store stands earlier base is) ∙ c.if-branch.false in
    let stands_then = c.in_ok-has_taken_name.ensures.read.store store stands in
    let used : is_used cs own.id ≡ true
    = ap (is_used cs) (sym c.id.ensures) ∙ sym (c.in_ok-has_used_id.ensures.answer store stands_then honest) ∙ c.if-branch-2.true in
    c.in_ok-plan-2.ensures ∙ used_refused viewer c.args.turn.now cs wanted own free used

pub returns-clause-refusal : goal.returns-clause-refusal
returns-clause-refusal g c store stands honest base viewer is =
    let cs = store.resources in
    let own = c.args.resource.now in
    let earlier = c.in_ok-has_used_id.ensures.read.honest honest in
    let free : is_taken cs own ≡ false = sym (c.in_ok-has_taken_name.ensures.answer store stands earlier base is) ∙ c.if-branch.false in
    let stands_then = c.in_ok-has_taken_name.ensures.read.store store stands in
    let fresh : is_used cs own.id ≡ false
    = ap (is_used cs) (sym c.id.ensures) ∙ sym (c.in_ok-has_used_id.ensures.answer store stands_then honest) ∙ c.if-branch-2.false in
    (free, fresh)
