use Rattle.std.proofs.Common.{rules}
use Rattle.scim_change.proofs.replacing.takes.Goals as goal

-- by name, so that a body that breaks it is refused at once
pub returns-else-gives : goal.returns-else-gives
returns-else-gives c = search rules
