use Rattle.std.specs.Option.{option_copied}
use Rattle.scim_exchange.proofs.AskLemmas.{makes}
use Rattle.scim_exchange.proofs.asks.creation.Goals as goal

pub returns : goal.returns
returns c = makes c.args.kind (option_copied c.args.query) c.args.body.now _ _ c.in_ok-draft.ensures c.in_ok-wanted_by_query.ensures
