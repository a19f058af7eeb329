use Rattle.std.proofs.Common.{◌≡◌, ◌++◌, drop}
use Rattle.std.specs.Prelude.{◌&&◌, filter}
use Rattle.scim_policy_warnings.specs.declared.possibilities.Extent.TheVariants.{SomeValue}
use Rattle.scim_policy_warnings.specs.MayAllow.{may_allow}
use Rattle.scim_policy_warnings.specs.Warnings.{has_effect}
use Rattle.scim_policy_warnings.proofs.losses.given_leaves.Given as goal

-- the leaves so far, and those from this one on, are all
abbrev pub invariant-loop-leaf : goal.invariant-loop-leaf
invariant-loop-leaf l =
    l.given.items ++ filter (λ m. has_effect l.op l.kind m && may_allow SomeValue l.rules l.client l.op l.kind m) (drop l.leaf-index l.leaf-items)
    ≡ filter (λ m. has_effect l.op l.kind m && may_allow SomeValue l.rules l.client l.op l.kind m) l.leaf-items
