use Rattle.std.proofs.Common.{rules}
use Rattle.scim_policy_file.proofs.rule_paths.path_in_version.Goals as goal

-- by name, so that a body that breaks it is refused at once
pub returns-in-One : goal.returns-in-One
returns-in-One c = search rules
