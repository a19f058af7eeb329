-- The index of groups by member, built group by group.
use Rattle.std.specs.Prelude.{List}
use Rattle.scim_cell.specs.Content.{Content}
use Rattle.scim_view.specs.declared.group_index.GroupIndex.{GroupIndex}
use Rattle.scim_view.specs.View.{Viewer}
use Rattle.scim_view.specs.Groups.{seen}
use Rattle.scim_view.specs.code.Index.{IsMadeOf}

-- the index has the groups that the viewer sees, each reduced to its visible part
abbrev pub IsIndexOf : Viewer → List Content → GroupIndex → Type 0
IsIndexOf v groups index = IsMadeOf (seen v groups) index
