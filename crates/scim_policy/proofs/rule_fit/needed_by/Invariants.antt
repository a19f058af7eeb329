use Rattle.std.proofs.Common.{◌≡◌, drop}
use Rattle.scim_cell.specs.Content.{Content}
use Rattle.scim_policy.specs.Fits.{holds_on}
use Rattle.scim_policy.proofs.rule_fit.needed_by.Given as goal

-- on resources of the kind, the answer for the targets that are left is that for all
abbrev pub invariant-loop-target : goal.invariant-loop-target
invariant-loop-target l = (c : Content) → c.kind ≡ l.kind → holds_on c (drop l.target-index l.targets) ≡ holds_on c l.targets
