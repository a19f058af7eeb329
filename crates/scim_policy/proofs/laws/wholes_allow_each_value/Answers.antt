use Rattle.scim_policy.proofs.PatternLawLemmas.{wholes_allow}
use Rattle.scim_policy.proofs.laws.wholes_allow_each_value.Goals as goal

pub returns : goal.returns
returns c = wholes_allow
