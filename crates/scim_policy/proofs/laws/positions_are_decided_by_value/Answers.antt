use Rattle.scim_policy.proofs.PatternLawLemmas.{positions_by_value}
use Rattle.scim_policy.proofs.laws.positions_are_decided_by_value.Goals as goal

pub returns : goal.returns
returns c = positions_by_value
