use Rattle.std.specs.Prelude.{⊤}
use Rattle.scim_shelf.specs.Stores.{Store}
use Rattle.scim_exchange.specs.Exchanges.{Exchanged}
use Rattle.scim_exchange.proofs.Facts.{exchanged_unserved}
use Rattle.scim_hub.proofs.ExchangeLemmas.{exchanged_weaker, over_live, over_lost}
use Rattle.scim_hub.proofs.answering.answer_by.Goals as goal

pub returns-in-Live-clause-exchanged : goal.returns-in-Live-clause-exchanged
returns-in-Live-clause-exchanged g c held store over honest is =
    let policy = c.args.service.now.policy in
    let base = c.args.service.now.base in
    over_live c.args.serving g.S.Shelf.stands held c.args.service.now.shelf c.answer.new.service.shelf base
    (λ (next : Store). Exchanged policy base (λ _. ⊤) c.args.arrival.now c.args.message.now store c.answer.result next)
    c.in-Live.is store
    (λ stands. let done = c.answer.ensures.exchanged store stands honest is in (done.0, done.1, done.2, exchanged_weaker _ _ _ _ _ _ _ _ done.3)) over

pub returns-in-Lost-clause-exchanged : goal.returns-in-Lost-clause-exchanged
returns-in-Lost-clause-exchanged g c held store over honest is =
    let policy = c.args.service.now.policy in
    let base = c.args.service.now.base in
    over_lost c.args.serving g.S.Shelf.stands held c.args.service.now.shelf c.args.service.now.shelf base
    (λ (next : Store). Exchanged policy base (λ _. ⊤) c.args.arrival.now c.args.message.now store c.answer_unserved.result next)
    c.in-Lost.is store is
    (exchanged_unserved policy base (λ _. ⊤) c.args.arrival.now c.args.message.now store c.answer_unserved.result c.answer_unserved.ensures) over
