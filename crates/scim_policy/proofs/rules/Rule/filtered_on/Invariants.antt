use Rattle.std.proofs.Common.{◌≡◌, drop}
use Rattle.scim_policy.specs.Fits.{filtered_on}
use Rattle.scim_policy.proofs.rules.Rule.filtered_on.Given as goal

-- the paths on the kind among the entries that are left are those among all
abbrev pub invariant-loop-paths : goal.invariant-loop-paths
invariant-loop-paths l = filtered_on l.kind (drop l.paths-index l.paths-items) ≡ filtered_on l.kind l.paths-items
