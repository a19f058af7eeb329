use Rattle.std.proofs.Common.{◌≡◌, drop}
use Rattle.scim_policy.specs.Fits.{holds_on}
use Rattle.scim_policy.proofs.rule_fit.holds_on.Given as goal

-- the answer for the targets that are left is that for all
abbrev pub invariant-loop-target : goal.invariant-loop-target
invariant-loop-target l = holds_on l.resource (drop l.target-index l.targets) ≡ holds_on l.resource l.targets
