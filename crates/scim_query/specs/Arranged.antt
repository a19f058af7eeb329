-- The page of a list as a function of the list, by insertion sort.
use Rattle.std.specs.Prelude.{◌≡◌, ◌↔◌, ℕ, Bool, cond, List, [], ◌∷◌, map, length}
use Rattle.std.specs.Ordering.{is_lt}
use Rattle.scim_cell.specs.Content.{Content}
use Rattle.scim_view.specs.Shown.{shown}
use Rattle.scim_query.specs.declared.queries.Query.{Query}
use Rattle.scim_query.specs.declared.queries.Page.{Page}
use Rattle.scim_query.specs.Order.{part_cmp}
use Rattle.scim_query.specs.Pages.{matching, slice_of, first_position, IsPage}

-- the list with x inserted before the first element that is greater than x
abbrev pub placed : {X : Type 0} → (X → X → Bool) → X → List X → List X
placed lt x [] = x ∷ []
placed lt x (y ∷ ys) = cond (lt x y) (x ∷ y ∷ ys) (y ∷ placed lt x ys)

-- whether one part comes before another in the query's order
abbrev pub before : Query → Content → Content → Bool
before query p q = is_lt (part_cmp query.sort_by query.descending p q)

-- the sorted list `done` with the parts of the second list inserted in order, one by one
abbrev pub with_placed : Query → List Content → List Content → List Content
with_placed query done [] = done
with_placed query done (p ∷ ps) = with_placed query (placed (before query) p done) ps

-- the matching parts in the query's order
abbrev pub arranged : Query → List Content → List Content
arranged query parts = with_placed query [] (matching query.filter parts)

-- the number of parts of a client's view that match
abbrev pub total_of : Query → List Content → ℕ
total_of query view = length (matching query.filter view)

-- the items of the query's page of a client's view, each projected to what the query wants
unfoldable pub shown_items : Query → List Content → List Content
shown_items query view = map (shown query.wanted) (slice_of query.start query.count (arranged query view))

-- the page has the number of matching parts, the query's start, and at most `count` of the arranged parts
-- from the start on
pub record IsArranged (view : List Content) (query : Query) (page : Page) : Type 0 where
  pub total : page.total ≡ total_of query view
  pub start : page.start ≡ first_position query.start
  pub items : page.items.items ≡ slice_of query.start query.count (arranged query view)

-- a page is the query's page of a view, as in `IsPage`, exactly if `IsArranged` is true of the page
abbrev pub PagesAreArranged : Type 0
PagesAreArranged = (view : List Content) (query : Query) (page : Page) → IsPage view query page ↔ IsArranged view query page
