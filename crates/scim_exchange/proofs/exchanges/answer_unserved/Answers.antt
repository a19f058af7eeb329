use Rattle.std.proofs.Common.{Ok}
use Rattle.scim_route.specs.declared.routes.Found.TheVariants.{Resource}
use Rattle.scim_exchange.proofs.ExchangeLemmas.{unserved}
use Rattle.scim_exchange.proofs.exchanges.answer_unserved.Goals as goal

pub returns-in-Ok : goal.returns-in-Ok
returns-in-Ok c = unserved c.args.arrival.now c.args.message.now c.unserved.result (Ok (Resource c.in-Ok._route)) c.in-Ok.ensures c.unserved.ensures

pub returns-in-Err : goal.returns-in-Err
returns-in-Err c = c.in-Err.ensures c.args.arrival.now
