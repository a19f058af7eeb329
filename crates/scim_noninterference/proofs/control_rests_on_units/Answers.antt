use Rattle.scim_noninterference.proofs.ChangeLemmas.{control_rests}
use Rattle.scim_noninterference.proofs.control_rests_on_units.Goals as goal

pub returns : goal.returns
returns c = control_rests
