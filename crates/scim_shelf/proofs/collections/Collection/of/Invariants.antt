use Rattle.std.proofs.Common.{List, vec_len}
use Rattle.scim_cell.specs.Content.{Content}
use Rattle.scim_shelf.specs.Collections.{IsCollection}
use Rattle.scim_shelf.specs.Indexed.{AreLeft}
use Rattle.scim_shelf.proofs.collections.Collection.of.Given as goal

-- the others have been kept
abbrev pub invariant-resources : goal.invariant-resources
invariant-resources l = (cs : List Content) × AreLeft l.fn.resources.items l.left.items cs × IsCollection cs l.collection

abbrev pub decreases-resources : goal.decreases-resources
decreases-resources l = vec_len l.left
