use Rattle.std.proofs.lemmas.Result.{IfOk-weaker}
use Rattle.scim_search.proofs.PossibleIdLemmas.{by_all}
use Rattle.scim_search.proofs.possible_ids.possible_ids.Goals as goal

pub returns-clause-ids : goal.returns-clause-ids
returns-clause-ids g c =
    IfOk-weaker c.with_holders.result _ _
    (λ new answer store stands honest base is.
    let first = c.in_ok-ids in
    by_all base store is c.args.kind c.args.texts.now _ first.ids new
    (first.ensures.ids store stands (c.with_holders.ensures.read.honest honest) base is) (answer store (first.ensures.read.store store stands) honest base is))
    c.with_holders.ensures.ids
