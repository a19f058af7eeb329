use Rattle.std.proofs.Common.{◌≡◌, ◌++◌, take}
use Rattle.scim_search.proofs.possible_ids.push_leaves.Given as goal

-- the leaves so far
abbrev pub invariant-loop-leaf : goal.invariant-loop-leaf
invariant-loop-leaf l = l.leaves.items ≡ l.fn.leaves.items ++ take l.leaf-index l.others
