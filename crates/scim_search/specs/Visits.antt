-- The state of a visitor after it has taken a resource.
use Rattle.std.specs.Prelude.{◌≡◌, ℕ, true, List, [], ◌∷◌, ◌++◌, Some, find}
use Rattle.scim_schema.specs.declared.Kind.{Kind}
use Rattle.scim_schema.specs.declared.Kind.TheVariants.{Group}
use Rattle.scim_cell.specs.Content.{Content}
use Rattle.scim_value.specs.Members.{lists}
use Rattle.scim_view.specs.View.{Viewer, viewer_of}
use Rattle.scim_view.specs.Groups.{and_those}
use Rattle.scim_view.specs.Indexes.{IsIndexOf}
use Rattle.scim_view.specs.Listings.{AreListing}
use Rattle.scim_query.specs.Needed.{NeedsGroups}
use Rattle.scim_query.specs.Pagers.{HasTaken}
use Rattle.scim_search.specs.declared.visitors.GroupVisitor.{GroupVisitor}
use Rattle.scim_search.specs.declared.visitors.ListingVisitor.{ListingVisitor}
use Rattle.scim_search.specs.declared.visitors.SearchVisitor.{SearchVisitor}
use Rattle.scim_shelf.specs.Stores.{is_at}
use Rattle.scim_search.specs.PatternCache.{Recalls}
use Rattle.scim_search.specs.ReadPatterns.{ArePatterns}
use Rattle.scim_search.specs.ViewBuilders.{IsViewBuilder, part_of}

-- the visitor keeps its viewer and its patterns, and adds the group to its index
pub record TakesGroup (old : GroupVisitor) (c : Content) (new : GroupVisitor) : Type 0 where
  pub viewer : new.viewer ≡ old.viewer
  pub patterns : new.patterns ≡ old.patterns
  pub index : (groups : List Content) → ArePatterns (viewer_of old.viewer.now) old.patterns → IsIndexOf (viewer_of old.viewer.now) groups old.index
      → IsIndexOf (viewer_of old.viewer.now) (groups ++ c ∷ []) new.index

-- the patterns of the visitor and its cached patterns are those of the viewer's reading of the groups among these
-- resources
pub record Tells (v : Viewer) (cs : List Content) (listing : ListingVisitor) : Type 0 where
  pub viewer : viewer_of listing.viewer.now ≡ v
  pub patterns : ArePatterns v listing.patterns
  pub cached : Recalls v Group cs listing.cached

-- when the visitor takes a group, its patterns stay correct, and it adds the group to the gathered groups if
-- the group lists the resource
abbrev pub TakesListing : ListingVisitor → Content → ListingVisitor → Type 0
TakesListing old c new = (v : Viewer) (cs : List Content) → find (is_at Group c.id) cs ≡ Some c → Tells v cs old
    → Tells v cs new × ((id : List ℕ) (gathered : List Content) → lists id c ≡ true → AreListing v id gathered old.groups → AreListing v id (gathered ++ c ∷ []) new.groups)

-- the visitor skips resources in no group only if its query needs a value of `groups`
abbrev pub SkipsOnlyUnmatched : SearchVisitor → Type 0
SkipsOnlyUnmatched visitor = visitor.needs_groups ≡ true → NeedsGroups visitor.pager.query.now.filter

-- the visitor keeps its builder, its query and whether it skips resources in no group; its pager takes the part of
-- the resource if the viewer sees the resource; and its cached patterns stay correct
pub record TakesResource (old : SearchVisitor) (c : Content) (new : SearchVisitor) : Type 0 where
  pub builder : new.builder ≡ old.builder
  pub query : new.pager.query ≡ old.pager.query
  pub needs : new.needs_groups ≡ old.needs_groups
  pub taken : (groups parts : List Content) → IsViewBuilder groups old.builder → SkipsOnlyUnmatched old → HasTaken parts old.pager
      → HasTaken (parts ++ and_those (part_of groups old.builder c) []) new.pager
  pub cached : (groups cs : List Content) (kind : Kind) → IsViewBuilder groups old.builder → find (is_at kind c.id) cs ≡ Some c
      → Recalls (viewer_of old.builder.viewer.now) kind cs old.cached → Recalls (viewer_of old.builder.viewer.now) kind cs new.cached
