-- The page of a list that a search returns (RFC 7644 sections 3.4.2.2 to 3.4.2.4).
use Rattle.std.specs.Prelude.{◌≡◌, ℕ, zero, suc, ◌-◌, Bool, true, Option, None, Some, List, filter, length, take, drop}
use Rattle.std.specs.List.Sorted.{IsPermutation, IsSorted, IsStable}
use Rattle.scim_cell.specs.Content.{Content}
use Rattle.scim_cell.specs.Rows.{rows}
use Rattle.scim_filter_grammar.specs.declared.tree.Filter.{Filter}
use Rattle.scim_filter_grammar.specs.Tree.{tree_of}
use Rattle.scim_filter.specs.Truth.{truth}
use Rattle.scim_query.specs.declared.queries.Query.{Query}
use Rattle.scim_query.specs.declared.queries.Page.{Page}
use Rattle.scim_query.specs.Order.{part_cmp}

-- whether a part matches a filter; every part matches if there is no filter
abbrev pub is_match : Option Filter → Content → Bool
is_match None p = true
is_match (Some f) p = truth (tree_of f) (rows p)

-- the parts that match, in the order of the list
abbrev pub matching : Option Filter → List Content → List Content
matching f ps = filter (is_match f) ps

-- the list `sorted` is the list `found` sorted stably in the query's order
pub record IsInOrder (query : Query) (found sorted : List Content) : Type 0 where
  pub members : IsPermutation found sorted
  pub in_order : IsSorted (part_cmp query.sort_by query.descending) sorted
  pub stable : IsStable (part_cmp query.sort_by query.descending) found sorted

-- at most count parts from position start on, counted from 1, where 0 counts as 1
abbrev pub slice_of : ℕ → ℕ → List Content → List Content
slice_of start count ps = take count (drop (start - 1) ps)

-- the position at which a page starts, where 0 counts as 1
abbrev pub first_position : ℕ → ℕ
first_position zero = 1
first_position (suc n) = suc n

-- the page is the query's page of the parts: it has the number of all matching parts, the start, and at most
-- `count` of the sorted matching parts from the start on
pub record IsPage (parts : List Content) (query : Query) (page : Page) : Type 0 where
  pub total : page.total ≡ length (matching query.filter parts)
  pub start : page.start ≡ first_position query.start
  pub sorted : List Content
  pub is_sorted : IsInOrder query (matching query.filter parts) sorted
  pub items : page.items.items ≡ slice_of query.start query.count sorted

-- any two pages of one query over one list have the same total, start and items
abbrev pub QueriesHaveOnePage : Type 0
QueriesHaveOnePage = (parts : List Content) (query : Query) (p q : Page) → IsPage parts query p → IsPage parts query q
    → (p.total ≡ q.total) × (p.start ≡ q.start) × (p.items.items ≡ q.items.items)
