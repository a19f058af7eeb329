use Rattle.std.proofs.Common.{◌≡◌, drop}
use Rattle.scim_policy.specs.PatternTable.{access_in}
use Rattle.scim_policy.proofs.AccessLemmas.{denied_at}
use Rattle.scim_policy.proofs.access_rights.Rights.forbidding.Given as goal

-- what is denied first at the leaves that are left is denied first at all
abbrev pub invariant-loop-leaf : goal.invariant-loop-leaf
invariant-loop-leaf l = denied_at l.kind (access_in l.self) l.unit (drop l.leaf-index l.leaf-items) ≡ denied_at l.kind (access_in l.self) l.unit l.leaf-items
