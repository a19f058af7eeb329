-- Whether the resource that a search finds by its id matches.
use Rattle.std.specs.Prelude.{◌≡◌, ◌&&◌, Bool, Option, Some, List, find}
use Rattle.scim_schema.specs.declared.Attribute.{Attribute}
use Rattle.scim_schema.specs.declared.Kind.{Kind}
use Rattle.scim_cell.specs.Content.{Content}
use Rattle.scim_filter_grammar.specs.declared.tree.Filter.{Filter}
use Rattle.scim_view.specs.View.{Viewer, read_in, sees, viewer_of, visible_attributes}
use Rattle.scim_query.specs.Pages.{is_match}
use Rattle.scim_shelf.specs.Stores.{is_at}
use Rattle.scim_search.specs.declared.id_matches.MatchVisitor.{MatchVisitor}
use Rattle.scim_search.specs.PatternCache.{Recalls}
use Rattle.scim_search.specs.ReadPatterns.{ArePatterns}

-- whether the viewer sees the resource, and the visible part of these attributes matches the filter
abbrev pub is_seen_match : Viewer → List Attribute → Option Filter → Content → Bool
is_seen_match v attributes filter c = sees v c && is_match filter (visible_attributes attributes (read_in v c) c)

-- the visitor notes whether its viewer sees the resource and the resource matches, and its cached patterns stay correct
abbrev pub TakesMatch : MatchVisitor → Content → MatchVisitor → Type 0
TakesMatch old c new = ArePatterns (viewer_of old.viewer.now) old.patterns.now
    → (new.matches ≡ is_seen_match (viewer_of old.viewer.now) old.attributes.now old.query.now.filter c)
    × ((kind : Kind) (cs : List Content) → find (is_at kind c.id) cs ≡ Some c → Recalls (viewer_of old.viewer.now) kind cs old.cached → Recalls (viewer_of old.viewer.now) kind cs new.cached)
