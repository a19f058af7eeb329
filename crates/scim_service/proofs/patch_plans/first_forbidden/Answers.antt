use Rattle.std.proofs.Common.{arith}
use Rattle.std.proofs.lemmas.Grind.{common_steps}
use Rattle.scim_service.proofs.patch_plans.first_forbidden.Goals as goal

-- by name, so that a body that breaks it is refused at once
pub loop-step-preserved : goal.loop-step-preserved
loop-step-preserved c = grind (arith, common_steps)
