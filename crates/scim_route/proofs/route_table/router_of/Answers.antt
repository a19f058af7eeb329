use Rattle.std.proofs.Common.{◌≡◌, ◌∙◌, sym, ap, ◌+◌, List, ℕ, map, drop, [], Bor, arith, length-drop}
use Rattle.std.proofs.lemmas.List.{at_drop_more, nil_from_length}
use Rattle.matchit.specs.Router.{rename}
use Rattle.scim_route.specs.declared.route_table.Leads.{Leads}
use Rattle.scim_route.specs.code.Table.{with_paths}
use Rattle.scim_route.proofs.route_table.router_of.Goals as goal

pub loop-path-preserved : goal.loop-path-preserved
unfolding with_paths
loop-path-preserved c =
    let next = at_drop_more (λ (rs : List (Bor (List ℕ) × Leads)). with_paths (map (λ r. (r.0.now, r.1)) rs) (rename (λ r. r.value) c.loop-path.router)) c.args.routes.now c.loop-path.path-index _ c.loop-path-test.true in
    ap (with_paths (map (λ r. (r.0.now, r.1)) (drop (c.loop-path.path-index + 1) c.args.routes.now))) c.in_ok-enter.ensures ∙ sym next ∙ c.loop-path.invariant

pub returns : goal.returns
unfolding with_paths
returns c =
    let over : drop c.loop-path.path-index c.args.routes.now ≡ [] = nil_from_length _ (simp length-drop (omega (arith, c.loop-path-test.false))) in
    ap (λ (rs : List (Bor (List ℕ) × Leads)). with_paths (map (λ r. (r.0.now, r.1)) rs) (rename (λ r. r.value) c.loop-path.router)) (sym over) ∙ c.loop-path.invariant
