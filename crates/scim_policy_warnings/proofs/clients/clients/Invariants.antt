use Rattle.std.proofs.Common.{◌≡◌, ◌++◌, drop, map}
use Rattle.scim_policy_warnings.specs.declared.clients.Client.TheVariants.{Named}
use Rattle.scim_policy_warnings.proofs.clients.clients.Given as goal

-- the clients so far, and those with the names from this one on, are all that are named
abbrev pub invariant-loop-name : goal.invariant-loop-name
invariant-loop-name l = l.found.items ++ map Named (drop l.name-index l.name-items) ≡ map Named l.name-items
