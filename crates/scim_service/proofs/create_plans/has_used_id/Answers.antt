use Rattle.std.proofs.Common.{sym, ◌∙◌}
use Rattle.scim_service.proofs.CreationLemmas.{used_by_user, used_by_group}
use Rattle.scim_service.proofs.create_plans.has_used_id.Goals as goal

pub returns-then-is_some-clause-answer : goal.returns-then-is_some-clause-answer
returns-then-is_some-clause-answer g c store stands honest =
    used_by_user c.args.id store.resources c.in_ok-user.user (c.in_ok-user.ensures.answer store stands honest) (sym c.is_some.ensures ∙ c.if-is_some.true)

pub returns-clause-answer : goal.returns-clause-answer
returns-clause-answer g c store stands honest =
    let earlier = c.in_ok-group.ensures.read.honest honest in
    c.is_some-2.ensures
    ∙ used_by_group c.args.id store.resources c.in_ok-user.user c.in_ok-group.group (c.in_ok-user.ensures.answer store stands earlier)
    (sym c.is_some.ensures ∙ c.if-is_some.false) (c.in_ok-group.ensures.answer store (c.in_ok-user.ensures.read.store store stands) honest)
