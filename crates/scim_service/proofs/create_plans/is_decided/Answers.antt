use Rattle.std.proofs.Common.{rules}
use Rattle.scim_service.proofs.create_plans.is_decided.Goals as goal

-- by name, so that a body that breaks it is refused at once
pub returns-then-eq : goal.returns-then-eq
returns-then-eq c = search rules

-- by name, so that a body that breaks it is refused at once
pub returns-else-eq : goal.returns-else-eq
returns-else-eq c = search rules
