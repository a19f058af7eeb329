use Rattle.std.proofs.Common.{rules}
use Rattle.scim_patch_steps.proofs.step_effects.row.Goals as goal

-- by name, so that a body that breaks it is refused at once
pub returns-in-SetAtMatches : goal.returns-in-SetAtMatches
returns-in-SetAtMatches c = search rules
