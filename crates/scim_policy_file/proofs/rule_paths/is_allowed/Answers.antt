use Rattle.std.proofs.Common.{rules}
use Rattle.scim_policy_file.proofs.rule_paths.is_allowed.Goals as goal

-- by name, so that a body that breaks it is refused at once
pub returns-then-ne : goal.returns-then-ne
returns-then-ne c = search rules
