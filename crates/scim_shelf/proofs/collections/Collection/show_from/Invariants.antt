use Rattle.std.proofs.Common.{List, map}
use Rattle.std.specs.List.{FoldsTo}
use Rattle.scim_cell.specs.Content.{Content}
use Rattle.scim_cell.specs.Kinds.{of_kind}
use Rattle.scim_shelf.specs.Collections.{IsCollection}
use Rattle.scim_shelf.specs.Indexed.{picked}
use Rattle.scim_shelf.proofs.collections.Collection.show_from.Given as goal

-- the visitor has taken the resources with the ids so far
abbrev pub invariant-loop-id : goal.invariant-loop-id
invariant-loop-id g l = (cs : List Content) → IsCollection cs l.self → FoldsTo g.V.Visitor.takes l.fn.visitor (of_kind l.kind (picked cs (map (λ id. id.now) l.yielded))) l.visitor
