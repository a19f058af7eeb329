use Rattle.std.proofs.Common.{◌≡◌, ◌++◌, map, drop}
use Rattle.scim_policy_file.specs.Targets.{names_of}
use Rattle.scim_policy_file.proofs.rule_targets.names_of.Given as goal

-- the lists so far, with the names of the targets from this one on, are the names of all
abbrev pub invariant-loop-target : goal.invariant-loop-target
invariant-loop-target l = map (λ ns. ns.items) l.lists.items ++ names_of (drop l.target-index l.targets) ≡ names_of l.targets
