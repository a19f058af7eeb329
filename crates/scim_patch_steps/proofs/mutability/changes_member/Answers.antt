use Rattle.std.proofs.Common.{rules}
use Rattle.scim_patch_steps.proofs.mutability.changes_member.Goals as goal

-- by name, so that a body that breaks it is refused at once
pub returns : goal.returns
returns c = search rules
