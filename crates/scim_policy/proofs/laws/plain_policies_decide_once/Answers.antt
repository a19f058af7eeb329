use Rattle.scim_policy.proofs.PatternLawLemmas.{plain_once}
use Rattle.scim_policy.proofs.laws.plain_policies_decide_once.Goals as goal

pub returns : goal.returns
returns c = plain_once
