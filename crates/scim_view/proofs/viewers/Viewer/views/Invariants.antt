use Rattle.std.proofs.Common.{◌≡◌, take}
use Rattle.scim_view.specs.View.{viewer_of}
use Rattle.scim_view.specs.Groups.{views}
use Rattle.scim_view.proofs.viewers.Viewer.views.Given as goal

abbrev pub invariant-loop-resource : goal.invariant-loop-resource
invariant-loop-resource l = l.views.items ≡ views (viewer_of l.self) l.groups (take l.resource-index l.resources)
