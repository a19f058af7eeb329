use Rattle.scim_noninterference.proofs.NameLemmas.{names_after_turns}
use Rattle.scim_noninterference.proofs.names_after_turns.Goals as goal

pub returns : goal.returns
returns c = names_after_turns
