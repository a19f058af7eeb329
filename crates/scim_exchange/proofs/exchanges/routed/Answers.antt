use Rattle.std.proofs.Common.{Ok}
use Rattle.scim_route.specs.declared.routes.Found.TheVariants.{Discovery}
use Rattle.scim_exchange.proofs.ExchangeLemmas.{unserved, refused}
use Rattle.scim_exchange.proofs.exchanges.routed.Goals as goal

pub returns-in-Ok-Discovery : goal.returns-in-Ok-Discovery
returns-in-Ok-Discovery c = λ arrival.
    unserved arrival c.args.message.now c.page_answer.result (Ok (Discovery c.in-Ok-Discovery.page c.in-Ok-Discovery.query))
    (rw (c.in-Ok-Discovery.field-0-is) at c.in-Ok-Discovery.ensures) c.page_answer.ensures

pub returns-in-Ok-Resource : goal.returns-in-Ok-Resource
returns-in-Ok-Resource c = rw (c.in-Ok-Resource.field-0-is) at c.in-Ok-Resource.ensures

pub returns-in-Err : goal.returns-in-Err
returns-in-Err c = λ arrival. refused arrival c.args.message.now c.in-Err.fault _ c.in-Err.ensures c.refusal_for.ensures
