use Rattle.std.proofs.lemmas.Bool.{false≢true}
use Rattle.scim_search.proofs.PossibleIdLemmas.{by_members, by_no_group}
use Rattle.scim_search.proofs.possible_ids.with_members.Goals as goal

pub returns-in_default-clause-ids : goal.returns-in_default-clause-ids
returns-in_default-clause-ids g c store stands honest base is = by_no_group base store is c.args.text.now c.args.ids (λ form. false≢true (c.in_default.ensures.form.1 form))

pub returns-clause-ids : goal.returns-clause-ids
returns-clause-ids g c store stands honest base is =
    by_members base store is c.args.text.now c.in-Some.group c.in-Some.ensures.id c.in-Some.ensures.value (record { ids = c.args.ids }) c.lend_by_id.new.visitor
    (c.in_ok-lend_by_id.ensures.answer store stands honest)
