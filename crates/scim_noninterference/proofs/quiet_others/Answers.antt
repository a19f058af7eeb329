use Rattle.scim_noninterference.proofs.ListLemmas.{quiet_others}
use Rattle.scim_noninterference.proofs.quiet_others.Goals as goal

pub returns : goal.returns
returns c = quiet_others
