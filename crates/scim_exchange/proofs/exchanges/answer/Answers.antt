use Rattle.std.proofs.Common.{Ok}
use Rattle.scim_route.specs.declared.routes.Found.TheVariants.{Resource}
use Rattle.scim_exchange.proofs.ExchangeLemmas.{exchanged, exchanged_unserved}
use Rattle.scim_exchange.proofs.exchanges.answer.Goals as goal

pub returns-in-Ok-clause-exchanged : goal.returns-in-Ok-clause-exchanged
returns-in-Ok-clause-exchanged g c store stands honest is =
    let served = c.served.ensures.served store stands honest is in (
      served.0,
      served.1,
      served.2,
      exchanged _ _ _ c.args.arrival.now c.args.message.now store c.served.result served.0 (Ok (Resource c.in-Ok.route)) c.in-Ok.ensures served.3,
    )

pub returns-in-Err-clause-exchanged : goal.returns-in-Err-clause-exchanged
returns-in-Err-clause-exchanged g c store stands honest is =
    (store, stands, is, exchanged_unserved _ _ _ c.args.arrival.now c.args.message.now store c.in-Err.answer (c.in-Err.ensures c.args.arrival.now))
