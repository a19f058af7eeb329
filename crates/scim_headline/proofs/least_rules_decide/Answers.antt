use Rattle.scim_headline.proofs.LeastLemmas.{least_rules_decide}
use Rattle.scim_headline.proofs.least_rules_decide.Goals as goal

pub returns : goal.returns
returns c = least_rules_decide
