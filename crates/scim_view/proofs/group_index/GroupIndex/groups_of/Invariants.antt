use Rattle.std.proofs.Common.{◌≡◌, take, map}
use Rattle.scim_view.specs.code.Index.{at_positions}
use Rattle.scim_view.proofs.group_index.GroupIndex.groups_of.Given as goal

abbrev pub invariant-loop-position : goal.invariant-loop-position
invariant-loop-position l = map (λ g. g.now) l.groups.items ≡ at_positions l.self.groups.items (take l.position-index l.position-items)
