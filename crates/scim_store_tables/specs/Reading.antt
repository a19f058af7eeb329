-- The results of the queries on the tables.
use Rattle.std.specs.Prelude.{◌≡◌, ◌≢◌, ◌⊎◌, ℕ, ℤ, pos, Bool, false, ◌&&◌, IsTrue, List, [], ◌∷◌, map, Option, Some, None, IsPermutation}
use Rattle.std.specs.Ordering.{is_eq, is_lt, is_ge, ordering_then}
use Rattle.std.specs.declared.cmp.Ordering.{Ordering}
use Rattle.std.specs.declared.cmp.Ordering.TheVariants.{Equal}
use Rattle.sqlite.specs.declared.types.Value.TheVariants.{Int, Text}
use Rattle.sqlite.specs.Effect.{Database}
use Rattle.sqlite.specs.Order.{Row, column, value_cmp}
use Rattle.sqlite.specs.State.{State, IsUnchanged, Survives}
use Rattle.sqlite.specs.Tree.{IsAscending}
use Rattle.scim_store_tables.specs.Tables.{schema_of}
use Rattle.scim_store_tables.specs.Lists.{Lists, Are, pair, triple, entry, has_text}
use Rattle.scim_store_tables.specs.declared.versions.Version.{Version}
use Rattle.scim_store_tables.specs.declared.versions.Version.TheVariants.{One, Two}

-- After a failed query the connection is closed, or its database is unchanged or as the last commit left it.
pub record Rests (old new : State) : Type 0 where
  pub was_open : IsTrue new.is_open → IsTrue old.is_open
  pub now : IsTrue new.is_open → (new.now ≡ old.now) ⊎ (new.now ≡ old.committed)
  pub committed : IsTrue new.is_open → new.committed ≡ old.committed

-- If the connection is open, its database has the tables of a version and nothing else.
abbrev pub HasTablesIn : Version → State → Type 0
HasTablesIn version s = IsTrue s.is_open → s.now.schema ≡ schema_of version

-- If the connection is open, its database has the six tables of version 2 and nothing else.
abbrev pub HasTables : State → Type 0
HasTables = HasTablesIn Two

-- If the database has exactly the tables of a version, a crash leaves only a state that a crash before the call
-- could also leave.
abbrev pub SparesIn : Version → State → State → Type 0
SparesIn version old new = Survives old new (λ _. old.now.schema ≢ schema_of version)

-- If the database has exactly the six tables of version 2, a crash leaves only a state that a crash before the
-- call could also leave.
abbrev pub Spares : State → State → Type 0
Spares = SparesIn Two

-- If the connection is open, its database has exactly the six tables of version 2, with these rows.
abbrev pub Holds : State → Lists → Type 0
Holds s lists = IsTrue s.is_open → Are s.now lists

-- The rows that a query returns from the table `secret` of a version. Version 1 has no such table.
abbrev pub shown_secrets : Version → Database → List Row
shown_secrets One db = []
shown_secrets Two db = map pair (db.trees 9)

-- The rows that queries return from the tables of a version other than `setting`, for any contents of the
-- database.
abbrev pub shown_in : Version → Database → Lists
shown_in version db = record {
  resources = map triple (db.trees 2);
  taken = map triple (db.trees 4);
  member = map pair (db.trees 6);
  audit = map entry (db.trees 8);
  secret = shown_secrets version db;
}

-- The rows that queries return from the tables of version 2 other than `setting`.
abbrev pub shown : Database → Lists
shown = shown_in Two

-- The rows that a query returns from the table `setting`, for any contents of the database.
abbrev pub shown_settings : Database → List Row
shown_settings db = map pair (db.trees 0)

-- A row with only the group column of a row of `member`.
abbrev pub group_alone : Row → Row
group_alone v = column v 1 ∷ []

-- A row of `taken` with the owner column moved to the front.
abbrev pub owner_first : Row → Row
owner_first v = column v 2 ∷ column v 0 ∷ column v 1 ∷ []

-- A row of `member` with the group column moved to the front.
abbrev pub group_first : Row → Row
group_first v = column v 1 ∷ column v 0 ∷ []

-- Compares two rows by the columns at these places, in turn.
abbrev pub columns_cmp : List ℕ → Row → Row → Ordering
columns_cmp [] a b = Equal
columns_cmp (place ∷ more) a b = ordering_then (value_cmp (column a place) (column b place)) (columns_cmp more a b)

-- The rows are sorted by the columns at these places.
abbrev pub DoNotFall : List ℕ → List Row → Type 0
DoNotFall places = IsAscending (λ a b. is_lt (columns_cmp places b a) ≡ false)

-- The rows are a permutation of `values`, sorted by the columns at `places`, and nothing is changed.
pub record Tells (places : List ℕ) (values : List Row) (old new : State) (rows : List Row) : Type 0 where
  pub unchanged : IsUnchanged old new
  pub same : IsPermutation values rows
  pub order : DoNotFall places rows

-- Whether a row has the id in its first column and the kind in its second.
abbrev pub is_resource : List ℕ → ℕ → Row → Bool
is_resource id kind row = has_text 0 id row && is_eq (value_cmp (column row 1) (Int (pos kind)))

-- Whether the number in a row's first column is at least `first` and below `end`.
abbrev pub is_between : ℤ → ℤ → Row → Bool
is_between first end row = is_ge (value_cmp (column row 0) (Int first)) && is_lt (value_cmp (column row 0) (Int end))

-- `found` is the text in the column at `place` of the first row, or `None` if there are no rows.
abbrev pub IsTextOfFirst : ℕ → List Row → Option (List ℕ) → Type 0
IsTextOfFirst place [] found = found ≡ None
IsTextOfFirst place (row ∷ more) found = (text : List ℕ) × (found ≡ Some text) × (column row place ≡ Text text)

-- `found` is the text in the column at `place` of one of the rows `values`, or `None` if there are no rows.
-- Nothing is changed.
pub record Finds (place : ℕ) (values : List Row) (old new : State) (found : Option (List ℕ)) : Type 0 where
  pub unchanged : IsUnchanged old new
  pub ordered : List Row
  pub same : IsPermutation values ordered
  pub first : IsTextOfFirst place ordered found
