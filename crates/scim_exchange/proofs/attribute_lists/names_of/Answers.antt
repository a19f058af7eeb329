use Rattle.scim_exchange.proofs.NameLemmas.{names_held}
use Rattle.scim_exchange.proofs.attribute_lists.names_of.Goals as goal

pub returns : goal.returns
returns c = names_held c.args.kind c.args.texts.now.items _ c.of.result c.as_slice.ensures.value c.of.ensures
