use Rattle.std.proofs.Common.{rules}
use Rattle.scim_route.proofs.request_targets.read_target.Goals as goal

-- by name, so that a body that breaks it is refused at once
pub returns-in-Some-clause-query : goal.returns-in-Some-clause-query
returns-in-Some-clause-query c = search rules
