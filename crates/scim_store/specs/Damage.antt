-- Whether the tables of a version have exactly the rows of valid resources, and the least damaged id.
use Rattle.std.specs.Prelude.{◌≡◌, ℕ, Bool, true, ◌&&◌, List, map, filter, All, Option, IsPermutation, [], ◌∷◌}
use Rattle.std.specs.Option.{option_to_list}
use Rattle.std.specs.List.{flat_map, list_any, IsDistinct}
use Rattle.std.specs.List.Sorted.{IsStrictlySortedBy}
use Rattle.std.specs.Ordering.{nat_cmp, is_eq}
use Rattle.std.specs.declared.cmp.Ordering.TheVariants.{Less}
use Rattle.std.specs.Cmp.Lexicographic.{slice_cmp}
use Rattle.sqlite.specs.Order.{Row, column, value_cmp}
use Rattle.scim_cell.specs.Ids.{IsId}
use Rattle.scim_shelf.specs.Stores.{AreKeyed}
use Rattle.scim_store_tables.specs.Reading.{DoNotFall, owner_first, group_first}
use Rattle.scim_store.specs.Owners.{is_of}
use Rattle.scim_store_tables.specs.declared.versions.Version.{Version}
use Rattle.scim_store_rows.specs.Stands.{Entry, IsEntry, MayHave, resource_row, name_rows, member_rows, secret_rows}
use Rattle.scim_store.specs.declared.damage.Judged.{Judged}
use Rattle.scim_store.specs.declared.damage.Judged.TheVariants.{Sound, Damaged, Foreign}

-- The rows of `resource`, `taken`, `member` and `secret`, as queries return them. Version 1 has no rows of
-- `secret`.
pub record Tables : Type 0 where
  -- Columns id, kind and document.
  pub resources : List Row
  -- Columns owner, attribute and text of each unique name.
  pub names : List Row
  -- Columns group and value of each member.
  pub members : List Row
  -- Columns id and door code of each user that has one.
  pub secrets : List Row

-- The rows are sorted: resources by id; names by owner, attribute and text; members by group and value; door
-- codes by id.
pub record AreOrdered (tables : Tables) : Type 0 where
  pub resources : DoNotFall (0 ∷ []) tables.resources
  pub names : DoNotFall (0 ∷ 1 ∷ 2 ∷ []) tables.names
  pub members : DoNotFall (0 ∷ 1 ∷ []) tables.members
  pub secrets : DoNotFall (0 ∷ []) tables.secrets

-- The entry is valid, and the tables of a version may have its resource.
pub record IsEntryIn (version : Version) (base : List ℕ) (e : Entry) : Type 0 where
  pub entry : IsEntry base e
  pub may : MayHave version e.content

-- The rows are exactly the rows of these valid resources with locations below the base URI, in the tables of a
-- version. The rows of a table may be in any order.
pub record AreThoseOf (version : Version) (base : List ℕ) (entries : List Entry) (tables : Tables) : Type 0 where
  pub sound : All (IsEntryIn version base) entries
  pub keyed : AreKeyed (map (λ e. e.content) entries)
  pub resources : IsPermutation tables.resources (map resource_row entries)
  pub names : IsPermutation tables.names (map owner_first (flat_map name_rows entries))
  pub members : IsPermutation tables.members (map group_first (flat_map member_rows entries))
  pub secrets : IsPermutation tables.secrets (flat_map secret_rows entries)

-- The rows are exactly the rows of some valid resources.
abbrev pub AreSound : Version → List ℕ → Tables → Type 0
AreSound version base tables = (entries : List Entry) × AreThoseOf version base entries tables

-- The rows with this id in the first column, in each table.
abbrev pub rows_at : List ℕ → Tables → Tables
rows_at id tables = record {
  resources = filter (is_of id) tables.resources;
  names = filter (is_of id) tables.names;
  members = filter (is_of id) tables.members;
  secrets = filter (is_of id) tables.secrets;
}

-- An id has no rows, or exactly the rows of one valid resource.
abbrev pub HoldsAt : Version → List ℕ → Tables → List ℕ → Type 0
HoldsAt version base tables id = (entry : Option Entry) × AreThoseOf version base (option_to_list entry) (rows_at id tables)

-- The least id that has rows, but not exactly the rows of one valid resource.
pub record IsLeastDamage (version : Version) (base : List ℕ) (tables : Tables) (id : List ℕ) : Type 0 where
  pub is_id : IsId id
  pub here : ¬ HoldsAt version base tables id
  pub before : (other : List ℕ) → IsId other → slice_cmp nat_cmp other id ≡ Less → HoldsAt version base tables other

-- Each id has no rows, or exactly the rows of one valid resource, but all rows together aren't the rows of
-- valid resources.
pub record IsForeign (version : Version) (base : List ℕ) (tables : Tables) : Type 0 where
  pub holds : (id : List ℕ) → IsId id → HoldsAt version base tables id
  pub unsound : ¬ AreSound version base tables

-- The result of the test is correct for the rows.
abbrev pub Judges : Version → List ℕ → Tables → Judged → Type 0
Judges version base tables Sound = AreSound version base tables
Judges version base tables (Damaged id) = IsLeastDamage version base tables id
Judges version base tables Foreign = IsForeign version base tables

-- A row belongs to one of these ids.
abbrev pub AreOwned : List (List ℕ) → Row → Type 0
AreOwned ids row = list_any (λ id. is_of id row) ids ≡ true

-- Whether two rows of unique names have the same attribute and the same text.
abbrev pub is_shared : Row → Row → Bool
is_shared r s = is_eq (value_cmp (column r 1) (column s 1)) && is_eq (value_cmp (column r 2) (column s 2))

-- If each row belongs to one of the ids `ids`, the rows of each id are valid and no two rows have the same
-- unique name, then the rows are exactly the rows of valid resources.
abbrev pub HoldingRowsAreSound : Type 0
HoldingRowsAreSound =
    (version : Version) (base : List ℕ) (tables : Tables) (ids : List (List ℕ)) → IsStrictlySortedBy (slice_cmp nat_cmp) ids → All IsId ids → All (AreOwned ids) tables.resources → All (AreOwned ids) tables.names → All (AreOwned ids) tables.members → All (AreOwned ids) tables.secrets
    → ((id : List ℕ) → IsId id → HoldsAt version base tables id) → IsDistinct is_shared tables.names → AreSound version base tables

-- If the rows are exactly the rows of valid resources, each id has no rows, or exactly the rows of one valid
-- resource. So if an id is damaged, the rows aren't the rows of valid resources.
abbrev pub SoundRowsHold : Type 0
SoundRowsHold = (version : Version) (base : List ℕ) (tables : Tables) (id : List ℕ) → IsId id → AreSound version base tables → HoldsAt version base tables id
