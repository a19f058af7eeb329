use Rattle.std.proofs.Common.{arith}
use Rattle.std.proofs.lemmas.Grind.{common_steps}
use Rattle.scim_service.proofs.put_plans.writable_of.Goals as goal

-- by name, so that a body that breaks it is refused at once
pub loop-unit-preserved : goal.loop-unit-preserved
loop-unit-preserved c = grind (arith, common_steps)
