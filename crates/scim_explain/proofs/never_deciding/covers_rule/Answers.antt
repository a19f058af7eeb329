use Rattle.std.proofs.Common.{rules}
use Rattle.scim_explain.proofs.never_deciding.covers_rule.Goals as goal

-- by name, so that a body that breaks it is refused at once
pub returns-then-covers_kinds : goal.returns-then-covers_kinds
returns-then-covers_kinds c = search rules
