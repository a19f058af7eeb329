use Rattle.std.proofs.Common.{◌≡◌, [], map, drop}
use Rattle.matchit.specs.Router.{rename}
use Rattle.scim_route.specs.code.Table.{with_paths}
use Rattle.scim_route.proofs.route_table.router_of.Given as goal

-- what is entered and the routes that are left make the whole
abbrev pub invariant-loop-path : goal.invariant-loop-path
invariant-loop-path l =
    with_paths (map (λ r. (r.0.now, r.1)) (drop l.path-index l.fn.routes)) (rename (λ r. r.value) l.router)
    ≡ with_paths (map (λ r. (r.0.now, r.1)) l.fn.routes) []
