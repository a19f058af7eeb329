-- The contents of the tables, as plain lists of rows.
use Rattle.std.specs.Prelude.{◌≡◌, ◌≤◌, ℕ, ℤ, pos, Bool, true, false, not, ◌&&◌, codes, List, [], ◌∷◌, map, filter, length, IsPermutation}
use Rattle.std.specs.List.{AllByRecursion}
use Rattle.std.specs.Ordering.{is_eq, nat_cmp}
use Rattle.std.specs.Cmp.Lexicographic.{slice_cmp}
use Rattle.sqlite.specs.declared.types.Value.{Value}
use Rattle.sqlite.specs.declared.types.Value.TheVariants.{Int, Text}
use Rattle.sqlite.specs.Order.{Row, column}
use Rattle.sqlite.specs.Tree.{rowid, has_rowid}
use Rattle.sqlite.specs.View.{is_int}
use Rattle.sqlite.specs.Effect.{Database}
use Rattle.scim_store_tables.specs.Tables.{schema_of}
use Rattle.scim_store_tables.specs.declared.versions.Version.{Version}
use Rattle.scim_store_tables.specs.declared.versions.Version.TheVariants.{One, Two}

-- The row that a query returns for the row `r` of a table of two columns.
abbrev pub pair : Row → Row
pair r = column r 1 ∷ column r 2 ∷ []

-- The row that a query returns for the row `r` of a table of three columns.
abbrev pub triple : Row → Row
triple r = column r 1 ∷ column r 2 ∷ column r 3 ∷ []

-- The row that a query returns for the row `r` of `audit`. The number is the rowid, so the stored column
-- `number` isn't read.
abbrev pub entry : Row → Row
entry r = column r 0 ∷ column r 2 ∷ column r 3 ∷ column r 4 ∷ column r 5 ∷ column r 6 ∷ column r 7 ∷ column r 8 ∷ column r 9 ∷ column r 10 ∷ []

-- Each rowid is a number, and none occurs twice.
pub record AreKeyed (rows : List Row) : Type 0 where
  pub keyed : AllByRecursion (λ r. is_int (rowid r) ≡ true) rows
  pub once : (id : ℤ) → length (filter (has_rowid id) rows) ≤ 1

-- Each row of a table has a key, no key occurs twice, and a query returns `values` from these rows, in some
-- order.
pub record IsTableOf (shows : Row → Row) (rows values : List Row) : Type 0 where
  pub keys : AreKeyed rows
  pub same : IsPermutation (map shows rows) values

-- The number of a version.
abbrev pub version_number : Version → ℕ
version_number One = 1
version_number Two = 2

-- The one row of `setting`, which names the version.
abbrev pub version_values : Version → Row
version_values version = Text (codes "version") ∷ Int (pos (version_number version)) ∷ []

-- The contents of the tables except `setting`. The rows of a table may be in any order.
pub record Lists : Type 0 where
  -- Columns id, kind and document.
  pub resources : List Row
  -- Columns attribute, text and id of the owner.
  pub taken : List Row
  -- Columns value and id of the group.
  pub member : List Row
  -- Columns number, moment, client, op, kind, id, decided, rule, leaf and refusal.
  pub audit : List Row
  -- Columns id of the user and door code.
  pub secret : List Row

-- The table `secret` of a version has these rows. Version 1 has no such table, and so no rows.
abbrev pub AreSecrets : Version → Database → List Row → Type 0
AreSecrets One db rows = rows ≡ []
AreSecrets Two db rows = IsTableOf pair (db.trees 9) rows

-- The database has exactly the tables of a version, with these rows, and names the version.
pub record AreIn (v : Version) (db : Database) (lists : Lists) : Type 0 where
  pub schema : db.schema ≡ schema_of v
  pub version : IsTableOf pair (db.trees 0) (version_values v ∷ [])
  pub resources : IsTableOf triple (db.trees 2) lists.resources
  pub taken : IsTableOf triple (db.trees 4) lists.taken
  pub member : IsTableOf pair (db.trees 6) lists.member
  pub audit : IsPermutation (map entry (db.trees 8)) lists.audit
  pub secret : AreSecrets v db lists.secret

-- The database has exactly the tables of version 1, with these rows.
abbrev pub AreOld : Database → Lists → Type 0
AreOld = AreIn One

-- The database has exactly the tables of version 2, with these rows.
abbrev pub Are : Database → Lists → Type 0
Are = AreIn Two

-- The contents of tables without rows.
abbrev pub no_rows : Lists
no_rows = record { resources = []; taken = []; member = []; audit = []; secret = [] }

-- The row of a resource.
abbrev pub resource_values : List ℕ → ℕ → List ℕ → Row
resource_values id kind document = Text id ∷ Int (pos kind) ∷ Text document ∷ []

-- The row of a unique name, with its owner's id.
abbrev pub name_values : List ℕ → List ℕ → List ℕ → Row
name_values attribute folded id = Text attribute ∷ Text folded ∷ Text id ∷ []

-- The row of a member, with its group's id.
abbrev pub member_values : List ℕ → List ℕ → Row
member_values value group_id = Text value ∷ Text group_id ∷ []

-- The row of a door code, with its user's id.
abbrev pub secret_values : List ℕ → List ℕ → Row
secret_values id code = Text id ∷ Text code ∷ []

-- Whether a value is the text.
abbrev pub is_text : List ℕ → Value → Bool
is_text text (Text other) = is_eq (slice_cmp nat_cmp other text)
is_text text _ = false

-- Whether a row has the text in the column at `place`.
abbrev pub has_text : ℕ → List ℕ → Row → Bool
has_text place text row = is_text text (column row place)

-- Whether a row has the text `first` in its first column and `second` in its second.
abbrev pub has_texts : List ℕ → List ℕ → Row → Bool
has_texts first second row = has_text 0 first row && has_text 1 second row

-- The rows that don't pass a test.
abbrev pub without : (Row → Bool) → List Row → List Row
without test = filter (λ row. not (test row))
