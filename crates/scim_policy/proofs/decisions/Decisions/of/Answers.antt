use Rattle.std.proofs.Common.{rules}
use Rattle.scim_policy.specs.Table.{decision}
use Rattle.scim_policy.proofs.decisions.Decisions.of.Goals as goal

-- by name, so that a body that breaks it is refused at once
pub returns-in-None : goal.returns-in-None
unfolding decision
returns-in-None c = search rules
