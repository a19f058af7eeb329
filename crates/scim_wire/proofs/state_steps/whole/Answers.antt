use Rattle.std.proofs.Common.{rules}
use Rattle.scim_wire.proofs.state_steps.whole.Goals as goal

-- by name, so that a body that breaks it is refused at once
pub returns-clause-state : goal.returns-clause-state
returns-clause-state c = search rules
