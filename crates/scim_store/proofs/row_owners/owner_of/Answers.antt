use Rattle.scim_store.proofs.IdTextLemmas.{of_some, no_text}
use Rattle.scim_store.proofs.row_owners.owner_of.Goals as goal

pub returns-in-Text-clause-some : goal.returns-in-Text-clause-some
returns-in-Text-clause-some c = of_some c.id_of.result c.in-Text.bytes.now c.args.row.now c.in-Text.ensures c.id_of.ensures.some

pub returns-in-Text-clause-none : goal.returns-in-Text-clause-none
returns-in-Text-clause-none c = λ none. no_text c.in-Text.bytes.now (c.id_of.ensures.none none) c.args.row.now c.in-Text.ensures
