use Rattle.std.proofs.Common.{arith}
use Rattle.std.proofs.lemmas.Grind.{common_steps}
use Rattle.scim_shelf.proofs.owners.Owners.forget.Goals as goal

-- by name, since what is tried before it is long
pub loop-name-preserved : goal.loop-name-preserved
loop-name-preserved c = grind (arith, common_steps)

-- by name, since what is tried before it is long
pub returns : goal.returns
returns c = grind (arith, common_steps)
