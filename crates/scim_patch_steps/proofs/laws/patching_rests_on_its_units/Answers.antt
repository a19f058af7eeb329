use Rattle.scim_patch_steps.proofs.LawLemmas.{patching_rests_on_its_units}
use Rattle.scim_patch_steps.proofs.laws.patching_rests_on_its_units.Goals as goal

pub returns : goal.returns
returns c = patching_rests_on_its_units
