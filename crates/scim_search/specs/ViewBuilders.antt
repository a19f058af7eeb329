-- The part of each resource on which a search evaluates its query.
use Rattle.std.specs.Prelude.{List, [], ◌∷◌, Option, None, Some, ⊤, if◌then◌else◌}
use Rattle.scim_cell.specs.Content.{Content}
use Rattle.scim_view.specs.View.{Viewer, viewer_of, read_in, sees, visible_attributes}
use Rattle.scim_view.specs.Groups.{and_those, with_groups}
use Rattle.scim_view.specs.Indexes.{IsIndexOf}
use Rattle.scim_search.specs.declared.view_builders.ViewScope.{ViewScope}
use Rattle.scim_search.specs.declared.view_builders.ViewScope.TheVariants.{Named, Whole}
use Rattle.scim_search.specs.declared.view_builders.ViewBuilder.{ViewBuilder}
use Rattle.scim_search.specs.ReadPatterns.{ArePatterns}

-- the part that is built from a resource: the visible part of some attributes, or the whole visible part with
-- computed `groups`
abbrev pub made : Viewer → List Content → ViewScope → Content → Content
made v groups (Named attributes) c = visible_attributes attributes.now (read_in v c) c
made v groups (Whole index) c = with_groups v groups c

-- the part that `make` builds from a resource; `None` if the viewer doesn't see the resource
abbrev pub made_part : (Content → Content) → Viewer → Content → Option Content
made_part make v c = if sees v c then Some (make c) else None

-- the parts that `make` builds from the resources that the viewer sees
abbrev pub made_of_all : (Content → Content) → Viewer → List Content → List Content
made_of_all make v [] = []
made_of_all make v (c ∷ cs) = and_those (made_part make v c) (made_of_all make v cs)

-- if whole parts are built, the index is built from these groups
abbrev pub IsIndexed : Viewer → List Content → ViewScope → Type 0
IsIndexed v groups (Named attributes) = ⊤
IsIndexed v groups (Whole index) = IsIndexOf v groups index.now

-- the builder has the patterns of the viewer's reading, and its index, if any, is built from these groups
pub record IsViewBuilder (groups : List Content) (builder : ViewBuilder) : Type 0 where
  pub patterns : ArePatterns (viewer_of builder.viewer.now) builder.patterns.now
  pub index : IsIndexed (viewer_of builder.viewer.now) groups builder.scope

-- the part that a builder builds from a resource; `None` if its viewer doesn't see the resource
abbrev pub part_of : List Content → ViewBuilder → Content → Option Content
part_of groups builder c = made_part (made (viewer_of builder.viewer.now) groups builder.scope) (viewer_of builder.viewer.now) c
