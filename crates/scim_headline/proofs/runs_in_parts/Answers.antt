use Rattle.scim_headline.proofs.OutputLemmas.{runs_in_parts}
use Rattle.scim_headline.proofs.runs_in_parts.Goals as goal

pub returns : goal.returns
returns c = runs_in_parts
