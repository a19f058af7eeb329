use Rattle.std.proofs.Common.{◌≡◌, map, drop}
use Rattle.std.specs.List.{list_any}
use Rattle.scim_policy_file.specs.Targets.{name_one_of}
use Rattle.scim_policy_file.proofs.rule_targets.names_one_of.Given as goal

-- the answer for the lists that are left is that for all
abbrev pub invariant-loop-names : goal.invariant-loop-names
invariant-loop-names l = list_any (name_one_of l.attributes) (map (λ ns. ns.items) (drop l.names-index l.lists)) ≡ list_any (name_one_of l.attributes) (map (λ ns. ns.items) l.lists)
