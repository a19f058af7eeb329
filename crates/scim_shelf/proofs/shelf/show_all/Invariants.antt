use Rattle.std.proofs.Common.{take}
use Rattle.std.specs.List.{FoldsTo}
use Rattle.scim_shelf.proofs.shelf.show_all.Given as goal

-- the visitor has taken those so far
abbrev pub invariant-loop-resource : goal.invariant-loop-resource
invariant-loop-resource g l = FoldsTo g.V.Visitor.takes l.fn.visitor (take l.resource-index l.resources) l.visitor
