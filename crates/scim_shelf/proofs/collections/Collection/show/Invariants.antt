use Rattle.std.proofs.Common.{map}
use Rattle.std.specs.List.{FoldsTo}
use Rattle.scim_cell.specs.Kinds.{of_kind}
use Rattle.scim_shelf.proofs.collections.Collection.show.Given as goal

-- the visitor has taken those of the kind so far
abbrev pub invariant-loop-resource : goal.invariant-loop-resource
invariant-loop-resource g l = FoldsTo g.V.Visitor.takes l.fn.visitor (of_kind l.kind (map (λ r. r.now) l.yielded)) l.visitor
