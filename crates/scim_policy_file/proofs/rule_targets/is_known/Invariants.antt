use Rattle.std.proofs.Common.{◌≡◌, map, drop}
use Rattle.std.specs.List.{list_any}
use Rattle.scim_policy_file.specs.Targets.{is_known_at}
use Rattle.scim_policy_file.proofs.rule_targets.is_known.Given as goal

-- the answer for the lists that are left is that for all
abbrev pub invariant-loop-names : goal.invariant-loop-names
invariant-loop-names l = list_any (is_known_at l.place) (map (λ ns. ns.items) (drop l.names-index l.lists)) ≡ list_any (is_known_at l.place) (map (λ ns. ns.items) l.lists)
