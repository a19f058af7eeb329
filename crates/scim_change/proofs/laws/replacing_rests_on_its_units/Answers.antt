use Rattle.scim_change.proofs.LawLemmas.{replacing_rests_on_its_units}
use Rattle.scim_change.proofs.laws.replacing_rests_on_its_units.Goals as goal

pub returns : goal.returns
returns c = replacing_rests_on_its_units
