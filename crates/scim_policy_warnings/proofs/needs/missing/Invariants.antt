use Rattle.std.proofs.Common.{◌≡◌, drop}
use Rattle.scim_policy_warnings.specs.Needs as spec
use Rattle.scim_policy_warnings.proofs.needs.missing.Given as goal

-- the first that is missing is among those that are left
abbrev pub invariant-loop-need : goal.invariant-loop-need
invariant-loop-need l = spec.missing l.rules l.client l.kind (drop l.need-index l.needs) ≡ spec.missing l.rules l.client l.kind l.needs
