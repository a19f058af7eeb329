use Rattle.std.proofs.Common.{◌≡◌, map, drop}
use Rattle.scim_policy_file.specs.Targets.{are_known_from}
use Rattle.scim_policy_file.proofs.rule_targets.are_all_known.Given as goal

-- the answer for the names that are left is that for all
abbrev pub invariant-loop-name : goal.invariant-loop-name
invariant-loop-name l =
    (l.place ≡ l._name-index)
    × (are_known_from l.place (map (λ ns. ns.items) l.lists) (drop l.place l.names) ≡ are_known_from 0 (map (λ ns. ns.items) l.lists) l.names)
