use Rattle.scim_value.proofs.OfLemmas.{sound_part}
use Rattle.scim_value.proofs.TieLemmas.{part_content, rows_content}
use Rattle.scim_value.proofs.laws.parts_are_sound_rows.Goals as goal

pub returns : goal.returns
returns c = record { sound = sound_part; made = λ kind id rs h. (part_content kind id rs h, rows_content kind id rs h) }
