-- The entries that the code sorts: each a matching part with its key.
use Rattle.std.specs.Prelude.{◌≡◌, Bool, Option, List, map}
use Rattle.std.specs.declared.cmp.Ordering.{Ordering}
use Rattle.scim_schema.specs.declared.Leaf.{Leaf}
use Rattle.scim_cell.specs.Content.{Content}
use Rattle.scim_cell.specs.Rows.{rows}
use Rattle.scim_query.specs.declared.matching_entries.Entry.{Entry}
use Rattle.scim_query.specs.Keys.{key_by}
use Rattle.scim_query.specs.Order.{Rank, rank_cmp}

-- the parts of the entries
abbrev pub parts_of : List Entry → List Content
parts_of es = map (λ (e : Entry). e.part.now) es

-- the key of the entry is the sort key of its part
abbrev pub HasKey : Option Leaf → Entry → Type 0
HasKey sort_by e = e.key ≡ key_by sort_by (rows e.part.now)

-- the rank of an entry: its key and the id of its part
abbrev pub entry_rank : Entry → Rank
entry_rank e = (e.key, e.part.now.id)

-- the order of entries: by key in the given direction, then by ascending id
abbrev pub entry_cmp : Bool → Entry → Entry → Ordering
entry_cmp descending e f = rank_cmp descending (entry_rank e) (entry_rank f)
