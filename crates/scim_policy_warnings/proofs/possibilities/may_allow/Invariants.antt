use Rattle.std.proofs.Common.{◌≡◌, drop}
use Rattle.scim_policy_warnings.specs.MayAllow as spec
use Rattle.scim_policy_warnings.proofs.possibilities.may_allow.Given as goal

-- the rules from this one on allow what all may allow
abbrev pub invariant-loop-rule : goal.invariant-loop-rule
invariant-loop-rule l = spec.may_allow l.extent (drop l.rule-index l.rules) l.client l.op l.kind l.leaf ≡ spec.may_allow l.extent l.rules l.client l.op l.kind l.leaf
