use Rattle.std.proofs.Common.{rules}
use Rattle.scim_route.proofs.endpoints.endpoint_at.Goals as goal

-- by name, so that a body that breaks it is refused at once
pub returns-in-Search : goal.returns-in-Search
returns-in-Search c = search rules
