use Rattle.scim_serve.proofs.LawLemmas.{runs_in_parts}
use Rattle.scim_serve.proofs.laws.runs_in_parts.Goals as goal

pub returns : goal.returns
returns c = runs_in_parts
