use Rattle.scim_noninterference.proofs.ListLemmas.{two_lists}
use Rattle.scim_noninterference.proofs.two_lists.Goals as goal

pub returns : goal.returns
returns c = two_lists
