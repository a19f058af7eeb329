use Rattle.scim_value.proofs.RowLemmas.{same_part}
use Rattle.scim_value.proofs.laws.rows_determine_cells.Goals as goal

pub returns : goal.returns
returns c = same_part
