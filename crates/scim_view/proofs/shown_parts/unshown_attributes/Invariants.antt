use Rattle.scim_view.specs.code.ShownCells.{AreUnshown}
use Rattle.scim_view.proofs.shown_parts.unshown_attributes.Given as goal

abbrev pub invariant-loop-attribute : goal.invariant-loop-attribute
invariant-loop-attribute l = AreUnshown l.wanted l.kind l.unshown.items
