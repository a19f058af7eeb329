use Rattle.std.proofs.Common.{◌≡◌, ◌≤◌, ◌++◌, drop, length}
use Rattle.std.specs.List.{flat_map}
use Rattle.scim_policy_warnings.specs.Warnings.{warnings_for}
use Rattle.scim_policy_warnings.proofs.policy_warnings.warnings.Given as goal

-- the warnings so far, and those for the clients from this one on, are all
abbrev pub invariant-loop-client : goal.invariant-loop-client
invariant-loop-client l =
    record {
      few : length l.rules ≤ 1000;
      told : l.found.items ++ flat_map (warnings_for l.rules) (drop l.client-index l.client-items) ≡ flat_map (warnings_for l.rules) l.client-items;
    }
