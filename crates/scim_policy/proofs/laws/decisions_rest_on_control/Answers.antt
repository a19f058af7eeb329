use Rattle.scim_policy.proofs.ControlLemmas.{decide_same}
use Rattle.scim_policy.proofs.laws.decisions_rest_on_control.Goals as goal

pub returns : goal.returns
returns c = decide_same
