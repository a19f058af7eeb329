use Rattle.scim_path.proofs.TargetLemmas.{targets_are_named}
use Rattle.scim_path.proofs.laws.targets_are_named.Goals as goal

pub returns : goal.returns
returns c = targets_are_named
