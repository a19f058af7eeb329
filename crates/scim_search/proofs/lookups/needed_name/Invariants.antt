use Rattle.std.proofs.Common.{◌≡◌}
use Rattle.scim_schema.specs.UniqueLeaves.{unique_leaves}
use Rattle.scim_search.proofs.lookups.needed_name.Given as goal

-- it goes over the unique leaves of the kind
abbrev pub invariant-loop-leaf : goal.invariant-loop-leaf
invariant-loop-leaf l = l.leaf-items ≡ unique_leaves l.fn.kind
