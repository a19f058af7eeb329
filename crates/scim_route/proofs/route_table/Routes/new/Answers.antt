use Rattle.matchit.proofs.OnLiterals.{matchit_on_literals}
use Rattle.scim_route.specs.code.Table.{with_paths}
use Rattle.scim_route.proofs.route_table.Routes.new.Goals as goal

pub invariant_of-result : goal.invariant_of-result
unfolding matchit_on_literals with_paths
invariant_of-result c = record { whole = c.in_ok-router_of.ensures }
