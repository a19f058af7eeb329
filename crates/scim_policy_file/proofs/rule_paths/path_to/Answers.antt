use Rattle.std.proofs.Common.{rules}
use Rattle.scim_policy_file.proofs.rule_paths.path_to.Goals as goal

-- by name, so that a body that breaks it is refused at once
pub returns-in-Values : goal.returns-in-Values
returns-in-Values c = search rules
