use Rattle.std.proofs.Common.{◌≡◌, ◌++◌, drop}
use Rattle.std.specs.List.{flat_map}
use Rattle.scim_schema.specs.Names.{operations}
use Rattle.scim_policy_warnings.specs.Warnings.{warnings_on}
use Rattle.scim_policy_warnings.proofs.policy_warnings.push_for.Given as goal

-- the warnings so far, and those for the kinds from this one on, are all
abbrev pub invariant-loop-kind : goal.invariant-loop-kind
invariant-loop-kind l =
    l.found.items ++ flat_map (λ k. flat_map (warnings_on l.rules l.client k) operations) (drop l.kind-index l.kind-items)
    ≡ l.initial.found.items ++ flat_map (λ k. flat_map (warnings_on l.rules l.client k) operations) l.kind-items
