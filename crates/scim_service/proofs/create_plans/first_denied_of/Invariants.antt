use Rattle.std.proofs.Common.{◌≡◌, ◌&&◌, drop}
use Rattle.std.specs.Prelude.{find, not}
use Rattle.scim_schema.specs.declared.Leaf.{Leaf}
use Rattle.scim_policy.specs.Table.{decision}
use Rattle.scim_service.specs.Step.{is_decided}
use Rattle.scim_service.proofs.create_plans.first_denied_of.Given as goal

-- the first is among those that are left
abbrev pub invariant-loop-leaf : goal.invariant-loop-leaf
invariant-loop-leaf l =
    find (λ (f : Leaf). is_decided l.draft f && not (decision l.decisions f).allow) (drop l.leaf-index l.leaves)
    ≡ find (λ (f : Leaf). is_decided l.draft f && not (decision l.decisions f).allow) l.leaves
