use Rattle.scim_value.proofs.GetLemmas.{get_cell}
use Rattle.scim_value.proofs.OfLemmas.{sound_part}
use Rattle.scim_value.proofs.laws.cells_stand_in_rows.Goals as goal

pub returns : goal.returns
returns c = λ p valid l k. get_cell p valid (sound_part p valid) l k
