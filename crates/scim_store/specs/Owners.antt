-- The owner of a row: the resource whose id is in its first column.
use Rattle.std.specs.Prelude.{◌≡◌, ℕ, Bool, true, List}
use Rattle.std.specs.List.{list_any}
use Rattle.sqlite.specs.Order.{Row}
use Rattle.scim_cell.specs.Ids.{IsId, id_text}
use Rattle.scim_store_tables.specs.Lists.{has_text}

-- Whether a row belongs to the resource with an id: its first column is the text of the id.
abbrev pub is_of : List ℕ → Row → Bool
is_of id = has_text 0 (id_text id)

-- A row belongs to some resource.
abbrev pub HasOwner : Row → Type 0
HasOwner row = (id : List ℕ) × IsId id × (is_of id row ≡ true)

-- Whether some row belongs to the resource with an id.
abbrev pub is_owner : List Row → List ℕ → Bool
is_owner rows id = list_any (is_of id) rows
