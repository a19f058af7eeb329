use Rattle.scim_store_causes.proofs.IdLemmas.{has_of_text, text_of_has}
use Rattle.scim_store_causes.proofs.row_ids.has_id.Goals as goal

pub returns-in-Text-clause-yes : goal.returns-in-Text-clause-yes
returns-in-Text-clause-yes c = λ yes. has_of_text c.in-Text.bytes.now c.args.row.now c.in-Text.ensures (c.is_id.ensures.yes yes)

pub returns-in-Text-clause-no : goal.returns-in-Text-clause-no
returns-in-Text-clause-no c = λ no has. c.is_id.ensures.no no (text_of_has c.in-Text.bytes.now c.args.row.now c.in-Text.ensures has)
