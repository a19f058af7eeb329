use Rattle.scim_policy.proofs.ControlLemmas.{patterns_same}
use Rattle.scim_policy.proofs.laws.patterns_rest_on_control.Goals as goal

pub returns : goal.returns
returns c = patterns_same
