use Rattle.std.proofs.Common.{◌≡◌, ◌+◌, ◌++◌, drop}
use Rattle.std.specs.Prelude.{filter_map}
use Rattle.std.specs.List.{enumerate_from}
use Rattle.scim_policy_warnings.specs.Warnings.{warning}
use Rattle.scim_policy_warnings.proofs.policy_warnings.push_on.Given as goal

-- the warnings so far, and those of the rules from this one on, are all
abbrev pub invariant-loop-index : goal.invariant-loop-index
invariant-loop-index l =
    l.found.items ++ filter_map (warning l.rules l.client l.op l.kind) (enumerate_from (l.index + 1) (drop l.index l.rules))
    ≡ l.initial.found.items ++ filter_map (warning l.rules l.client l.op l.kind) (enumerate_from 1 l.rules)
