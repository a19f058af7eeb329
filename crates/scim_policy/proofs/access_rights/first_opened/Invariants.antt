use Rattle.std.proofs.Common.{◌≡◌, drop}
use Rattle.scim_policy.specs.Table.{decision}
use Rattle.scim_policy.proofs.AccessLemmas.{opened_at}
use Rattle.scim_policy.proofs.access_rights.first_opened.Given as goal

-- what is opened first at the leaves that are left is opened first at all
abbrev pub invariant-loop-leaf : goal.invariant-loop-leaf
invariant-loop-leaf l = opened_at l.op (decision l.before) (decision l.after) (drop l.leaf-index l.leaf-items) ≡ opened_at l.op (decision l.before) (decision l.after) l.leaf-items
