-- Pages over the resources with some ids.
use Rattle.std.specs.Prelude.{ℕ, List, ◌++◌}
use Rattle.scim_schema.specs.declared.Kind.{Kind}
use Rattle.scim_schema.specs.declared.Kind.TheVariants.{Group}
use Rattle.scim_cell.specs.Content.{Content}
use Rattle.scim_cell.specs.Kinds.{of_kind}
use Rattle.scim_view.specs.View.{Viewer}
use Rattle.scim_view.specs.Groups.{views}
use Rattle.scim_query.specs.declared.pagers.Pager.{Pager}
use Rattle.scim_query.specs.Pagers.{HasTaken}
use Rattle.scim_shelf.specs.Indexed.{picked}
use Rattle.scim_search.specs.declared.visitors.ListingVisitor.{ListingVisitor}
use Rattle.scim_search.specs.Visits.{Tells}

-- the pager takes these further parts
abbrev pub TakesParts : Pager → List Content → Pager → Type 0
TakesParts old more new = (parts : List Content) → HasTaken parts old → HasTaken (parts ++ more) new

-- the resources of the kind with these ids, in the order of the ids
abbrev pub at_ids : Kind → List (List ℕ) → List Content → List Content
at_ids kind ids cs = of_kind kind (picked cs ids)

-- the viewer's view of these resources of a store, with the groups of the store
abbrev pub seen_of : Viewer → List Content → List Content → List Content
seen_of v cs those = views v (of_kind Group cs) those

-- the pager takes the viewer's view of these resources, and the visitor stays true of the groups
abbrev pub TakesViews : Viewer → List Content → List Content → ListingVisitor → ListingVisitor → Pager → Pager → Type 0
TakesViews v cs those told telling old new = Tells v cs told → Tells v cs telling × TakesParts old (seen_of v cs those) new
