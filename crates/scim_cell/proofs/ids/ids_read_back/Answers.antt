use Rattle.scim_cell.proofs.IdLemmas.{IsIdText-id_text, id_text-injective}
use Rattle.scim_cell.proofs.ids.ids_read_back.Goals as goal

pub returns : goal.returns
returns c = record { form = λ id _. IsIdText-id_text id; apart = id_text-injective }
