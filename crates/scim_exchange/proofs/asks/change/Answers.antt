use Rattle.std.specs.Option.{option_copied}
use Rattle.scim_exchange.proofs.AskLemmas.{changes}
use Rattle.scim_exchange.proofs.asks.change.Goals as goal

pub returns : goal.returns
returns c = changes c.args.kind (option_copied c.args.query) c.args.body.now _ _ c.in_ok-patch.ensures c.in_ok-wanted_by_query.ensures
