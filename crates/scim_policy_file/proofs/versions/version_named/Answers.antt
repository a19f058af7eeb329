use Rattle.std.proofs.Common.{rules}
use Rattle.scim_policy_file.proofs.versions.version_named.Goals as goal

-- by name, so that a body that breaks it is refused at once
pub returns-in-text-2 : goal.returns-in-text-2
returns-in-text-2 c = search rules
