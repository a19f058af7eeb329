use Rattle.std.proofs.Common.{take}
use Rattle.scim_view.specs.View.{viewer_of}
use Rattle.scim_view.specs.Indexes.{IsIndexOf}
use Rattle.scim_view.proofs.group_index.GroupIndex.of.Given as goal

abbrev pub invariant-loop-group : goal.invariant-loop-group
invariant-loop-group l = IsIndexOf (viewer_of l.viewer) (take l.group-index l.groups) l.index
