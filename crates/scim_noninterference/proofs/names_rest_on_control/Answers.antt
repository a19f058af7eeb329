use Rattle.scim_noninterference.proofs.NameLemmas.{names_same}
use Rattle.scim_noninterference.proofs.names_rest_on_control.Goals as goal

pub returns : goal.returns
returns c = names_same
