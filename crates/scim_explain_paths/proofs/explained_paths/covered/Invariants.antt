use Rattle.std.proofs.Common.{◌≡◌, ◌++◌, drop, filter}
use Rattle.scim_explain_paths.specs.Paths as spec
use Rattle.scim_explain_paths.proofs.explained_paths.covered.Given as goal

-- the leaves so far, and those that the path covers from this one on, are those of all
abbrev pub invariant-loop-leaf : goal.invariant-loop-leaf
invariant-loop-leaf l = l.covered.items ++ filter (spec.covers l.path) (drop l.leaf-index l.leaves) ≡ filter (spec.covers l.path) l.leaves
