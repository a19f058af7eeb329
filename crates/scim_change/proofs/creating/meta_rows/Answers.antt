use Rattle.std.proofs.Common.{rules}
use Rattle.scim_change.proofs.creating.meta_rows.Goals as goal

-- by name, so that a body that breaks it is refused at once
pub returns-clause-rows : goal.returns-clause-rows
returns-clause-rows c = search rules
