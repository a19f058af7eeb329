-- The cache of patterns by resource id.
use Rattle.std.specs.Prelude.{◌≡◌, ℕ, List, Some, IfSome, find}
use Rattle.std.specs.HashMap.{get}
use Rattle.scim_schema.specs.declared.Kind.{Kind}
use Rattle.scim_cell.specs.Content.{Content}
use Rattle.scim_cell.specs.Equality.{is_same_id}
use Rattle.scim_policy.specs.declared.patterns.Patterns.{Patterns}
use Rattle.scim_view.specs.View.{Viewer}
use Rattle.scim_shelf.specs.Stores.{is_at}
use Rattle.scim_search.specs.declared.pattern_cache.PatternCache.{PatternCache}
use Rattle.scim_search.specs.ReadPatterns.{AreFor}

-- the patterns are those of the viewer's reading of the resource with this kind and id, if there is one
abbrev pub AreOn : Viewer → Kind → List Content → List ℕ → Patterns → Type 0
AreOn v kind cs id patterns = (c : Content) → find (is_at kind id) cs ≡ Some c → AreFor v c patterns

-- every cache entry has the patterns of the viewer's reading of the resource with the id of the entry
abbrev pub Recalls : Viewer → Kind → List Content → PatternCache → Type 0
Recalls v kind cs cache = (id : List ℕ) → IfSome (get is_same_id cache.by_id id) (AreOn v kind cs id)
