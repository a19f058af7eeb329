use Rattle.scim_noninterference.proofs.CellLemmas.{hidden_cells_are_quiet}
use Rattle.scim_noninterference.proofs.hidden_cells_are_quiet.Goals as goal

pub returns : goal.returns
returns c = hidden_cells_are_quiet
