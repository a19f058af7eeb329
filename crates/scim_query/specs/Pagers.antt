-- The matching parts that a pager holds after it has taken some parts.
use Rattle.std.specs.Prelude.{◌≡◌, ℕ, ◌+◌, ◌-◌, Option, None, Some, List, map, length, take, is_some, if◌then◌else◌}
use Rattle.std.specs.List.Sorted.{IsSorted}
use denote.Ref.{Bor}
use Rattle.scim_schema.specs.declared.Leaf.{Leaf}
use Rattle.scim_cell.specs.Content.{Content}
use Rattle.scim_cell.specs.Rows.{rows}
use Rattle.scim_cell.specs.Order.{id_cmp}
use Rattle.scim_query.specs.declared.queries.Query.{Query}
use Rattle.scim_query.specs.declared.kept_parts.KeptPart.{KeptPart}
use Rattle.scim_query.specs.declared.pagers.Pager.{Pager}
use Rattle.scim_query.specs.Keys.{key_by}
use Rattle.scim_query.specs.Pages.{matching, IsInOrder, slice_of}

-- the query of a pager
abbrev pub query_of : Pager → Bor Query
query_of pager = pager.query

-- a part with its sort key at the leaf
abbrev pub keyed : Option Leaf → Content → KeptPart
keyed sort_by p = record { key = key_by sort_by (rows p); part = p }

-- the held parts are the matching parts on the page or before it, in the query's order
pub record HoldsFirst (query : Query) (found : List Content) (held : List KeptPart) : Type 0 where
  pub sorted : List Content
  pub is_sorted : IsInOrder query found sorted
  pub first : held ≡ map (keyed query.sort_by) (take (query.start - 1 + query.count) sorted)

-- the held parts are, with a sort key, the matching parts on the page or before it; without one, the matching
-- parts on the page, in the order of the list
abbrev pub Holds : Option Leaf → Query → List Content → List KeptPart → Type 0
Holds None query found held = held ≡ map (keyed query.sort_by) (slice_of query.start query.count found)
Holds (Some l) query found held = HoldsFirst query found held

-- the pager has taken these parts, one after another
pub record HasTaken (parts : List Content) (pager : Pager) : Type 0 where
  pub total : pager.total ≡ length (matching pager.query.now.filter parts)
  pub held : Holds pager.query.now.sort_by pager.query.now (matching pager.query.now.filter parts) pager.held.items

-- the pager has the same query, total and held parts as before
pub record IsUnchanged (old new : Pager) : Type 0 where
  pub query : new.query ≡ old.query
  pub total : new.total ≡ old.total
  pub held : new.held.items ≡ old.held.items

-- the maximum number of parts that a pager holds for a query
abbrev pub most_held : Query → ℕ
most_held query = if is_some query.sort_by then query.start - 1 + query.count else query.count

-- the parts come in ascending order of id, which is required if the query has no sort key
abbrev pub ComeInOrder : Query → List Content → Type 0
ComeInOrder query parts = query.sort_by ≡ None → IsSorted id_cmp parts
