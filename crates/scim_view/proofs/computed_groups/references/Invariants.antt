use Rattle.std.proofs.Common.{◌≡◌, map, take}
use denote.Ref.{Bor}
use Rattle.scim_view.specs.declared.computed_groups.SeenGroup.{SeenGroup}
use Rattle.scim_view.proofs.computed_groups.references.Given as goal

abbrev pub invariant-loop-group : goal.invariant-loop-group
invariant-loop-group l = map (λ (g : Bor SeenGroup). g.now) l.lent.items ≡ take l.group-index l.groups
