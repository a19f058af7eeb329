use Rattle.std.proofs.Common.{rules}
use Rattle.scim_patch_steps.proofs.step_effects.append.Goals as goal

-- by name, so that a body that breaks it is refused at once
pub returns : goal.returns
returns c = search rules
