use Rattle.std.proofs.Common.{arith}
use Rattle.std.proofs.lemmas.Grind.{common_steps}
use Rattle.scim_patch_steps.proofs.primary_values.settle.Goals as goal

-- by name, so that a body that breaks it is refused at once
pub returns-in_ok-values_of : goal.returns-in_ok-values_of
returns-in_ok-values_of c = grind (arith, common_steps)
