-- The items of a page, which are what a reply shows of the resources that a search found.
use Rattle.std.specs.Prelude.{◌≡◌, true, List, Option, None, Some, map, find, if◌then◌else◌}
use Rattle.scim_schema.specs.declared.Kind.{Kind}
use Rattle.scim_schema.specs.declared.Kind.TheVariants.{Group}
use Rattle.scim_cell.specs.Content.{Content, IsPart}
use Rattle.scim_cell.specs.Kinds.{of_kind}
use Rattle.scim_view.specs.declared.listing_groups.ListingGroups.{ListingGroups}
use Rattle.scim_view.specs.declared.projection.Wanted.{Wanted}
use Rattle.scim_view.specs.View.{Viewer, viewer_of, sees}
use Rattle.scim_view.specs.Groups.{with_groups}
use Rattle.scim_view.specs.Listings.{AreListing}
use Rattle.scim_view.specs.Shown.{shown}
use Rattle.scim_shelf.specs.Stores.{is_at}
use Rattle.scim_search.specs.declared.shown_items.ItemBuilder.{ItemBuilder}
use Rattle.scim_search.specs.declared.shown_items.ItemVisitor.{ItemVisitor}
use Rattle.scim_search.specs.PatternCache.{Recalls}
use Rattle.scim_search.specs.ReadPatterns.{ArePatterns}

-- the patterns of the builder and its cached patterns are those of the viewer's reading
pub record IsItemBuilder (cs : List Content) (builder : ItemBuilder) : Type 0 where
  pub patterns : ArePatterns (viewer_of builder.viewer.now) builder.patterns.now
  pub cached : Recalls (viewer_of builder.viewer.now) builder.kind cs builder.cached.now

-- a resource of the kind that the viewer sees, and that a look-up of its id finds
pub record SeenResource (v : Viewer) (kind : Kind) (cs : List Content) : Type 0 where
  pub own : Content
  pub part : IsPart own
  pub is_kind : own.kind ≡ kind
  pub seen : sees v own ≡ true
  pub found : find (is_at kind own.id) cs ≡ Some own

-- the item for a resource: what the reply shows of the viewer's view of the resource with these groups
abbrev pub item : Viewer → Wanted → List Content → Content → Content
item v wanted groups c = shown wanted (with_groups v groups c)

-- the item for a resource; None if the viewer doesn't see the resource
abbrev pub item_if_seen : Viewer → Wanted → List Content → Content → Option Content
item_if_seen v wanted groups c = if sees v c then Some (item v wanted groups c) else None

-- with the gathered groups, the item for the resource is the same as with all groups of the store
pub record TellShownGroups (v : Viewer) (wanted : Wanted) (cs : List Content) (c : Content) (listing : ListingGroups) : Type 0 where
  pub groups : List Content
  pub gathered : AreListing v c.id groups listing
  pub same : item v wanted groups c ≡ item v wanted (of_kind Group cs) c

-- the visitor makes the item for the resource with the groups that it was given, if the viewer sees the resource
abbrev pub TakesItem : ItemVisitor → Content → ItemVisitor → Type 0
TakesItem old c new = (cs groups : List Content) → IsItemBuilder cs old.builder → find (is_at old.builder.kind c.id) cs ≡ Some c
    → AreListing (viewer_of old.builder.viewer.now) c.id groups old.groups.now
    → new.item ≡ item_if_seen (viewer_of old.builder.viewer.now) old.builder.wanted.now groups c

-- if the ids of the parts are those of resources that the viewer sees, the items are those for these resources, in the
-- same order
abbrev pub AreItems : Viewer → Wanted → Kind → List Content → List Content → List Content → Type 0
AreItems v wanted kind cs parts items = (found : List (SeenResource v kind cs)) → map (λ p. p.id) parts ≡ map (λ x. x.own.id) found
    → items ≡ map (λ x. item v wanted (of_kind Group cs) x.own) found
