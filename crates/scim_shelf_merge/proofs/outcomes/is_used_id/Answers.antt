use Rattle.std.proofs.Common.{◌≡◌, true, false, ◌||◌, sym, ◌∙◌, ap, is_some}
use Rattle.std.specs.Prelude.{find}
use Rattle.scim_schema.specs.declared.Kind.TheVariants.{User, Group}
use Rattle.scim_shelf.specs.Stores.{is_at}
use Rattle.scim_shelf.proofs.Facts.{used_by_kind}
use Rattle.scim_shelf_merge.proofs.outcomes.is_used_id.Goals as goal

pub returns-then-is_some-clause-answer : goal.returns-then-is_some-clause-answer
returns-then-is_some-clause-answer g c store stands honest keyed =
    let cs = store.resources in
    let there : is_some (find (is_at User c.args.id) cs) ≡ true
    = ap is_some (sym (c.in_ok-user.ensures.answer store stands honest)) ∙ sym c.is_some.ensures ∙ c.if-is_some.true in
    sym (used_by_kind c.args.id cs ∙ ap (λ b. b || is_some (find (is_at Group c.args.id) cs)) there)

pub returns-clause-answer : goal.returns-clause-answer
returns-clause-answer g c store stands honest keyed =
    let cs = store.resources in
    let earlier = c.in_ok-group.ensures.read.honest honest in
    let none : is_some (find (is_at User c.args.id) cs) ≡ false
    = ap is_some (sym (c.in_ok-user.ensures.answer store stands earlier)) ∙ sym c.is_some.ensures ∙ c.if-is_some.false in
    c.is_some-2.ensures
    ∙ ap is_some (c.in_ok-group.ensures.answer store (c.in_ok-user.ensures.read.store store stands) honest)
    ∙ sym (used_by_kind c.args.id cs ∙ ap (λ b. b || is_some (find (is_at Group c.args.id) cs)) none)
