use Rattle.scim_policy_warnings.proofs.CertainLemmas.{denied}
use Rattle.scim_policy_warnings.proofs.laws.denies_what_it_may_not_allow.Goals as goal

pub returns : goal.returns
returns c = denied
