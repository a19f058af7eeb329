use Rattle.std.proofs.Common.{◌≡◌, take}
use Rattle.scim_cell.specs.Rows.{by_leaf, restricted}
use Rattle.scim_view.specs.Shown.{shows}
use Rattle.scim_view.proofs.projection.project_rows.Given as goal

abbrev pub invariant-loop-row : goal.invariant-loop-row
invariant-loop-row l = l.left.items ≡ restricted (by_leaf (shows l.shown.wanted.now l.shown.kind)) (take l.row-index l.row-items)
