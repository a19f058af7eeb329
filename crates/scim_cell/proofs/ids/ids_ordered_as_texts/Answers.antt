use Rattle.scim_cell.proofs.IdOrderLemmas.{slice_cmp-id_text}
use Rattle.scim_cell.proofs.ids.ids_ordered_as_texts.Goals as goal

pub returns : goal.returns
returns c = slice_cmp-id_text
