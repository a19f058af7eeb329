use Rattle.std.proofs.Common.{arith}
use Rattle.std.proofs.lemmas.Grind.{common_steps}
use Rattle.scim_shelf.proofs.memory.MemoryShelfShelf.commit.Goals as goal

-- by name, so that a body that breaks it is refused at once
pub returns-in-Err-clause-commits : goal.returns-in-Err-clause-commits
returns-in-Err-clause-commits c = grind (arith, common_steps)
