use Rattle.std.proofs.Common.{rules}
use Rattle.scim_service.proofs.plans.removed_if_seen.Goals as goal

-- by name, so that a body that breaks it is refused at once
pub returns-then-not-seen : goal.returns-then-not-seen
returns-then-not-seen c = search rules
