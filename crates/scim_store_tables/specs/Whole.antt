-- The classification of a database, and the rows of its resources.
use Rattle.std.specs.Prelude.{◌≡◌, ◌≢◌, ◌⊎◌, ℕ, Bool, false, true, ◌||◌, IsTrue, codes, List, [], ◌∷◌, map, Contains, IsPermutation, ⊤}
use Rattle.std.specs.List.{list_any}
use Rattle.sqlite.specs.Effect.{Database}
use Rattle.sqlite.specs.Order.{Row}
use Rattle.sqlite.specs.Schema.{Schema}
use Rattle.sqlite.specs.State.{State, IsUnchanged}
use Rattle.sqlite_schema.specs.Names.{same_name}
use Rattle.scim_store_tables.specs.Tables.{no_schema, schema_of}
use Rattle.scim_store_tables.specs.Lists.{Lists, AreIn, AreKeyed, version_values}
use Rattle.scim_store_tables.specs.Looking.{NamesKnown, NamesUnknown}
use Rattle.scim_store_tables.specs.Reading.{DoNotFall, shown_in, shown_settings, owner_first, group_first}
use Rattle.scim_store_tables.specs.declared.versions.Version.{Version}
use Rattle.scim_store_tables.specs.declared.versions.Version.TheVariants.{One, Two}
use Rattle.scim_store_tables.specs.declared.database_kinds.TableRows.{TableRows}
use Rattle.scim_store_tables.specs.declared.database_kinds.DatabaseKind.{DatabaseKind}
use Rattle.scim_store_tables.specs.declared.database_kinds.DatabaseKind.TheVariants.{Empty, WrongVersion, Foreign, Altered, Tables}

-- ---- classification by table names

-- Whether a schema has a table of the name, ignoring the case of ASCII letters.
abbrev pub has_table : Schema → List ℕ → Bool
has_table schema name = list_any (λ t. same_name t.name name) schema.tables

-- Whether a schema has a table with the name `setting`.
abbrev pub has_setting : Schema → Bool
has_setting schema = has_table schema (codes "setting")

-- Whether a schema has a table with one of the names `resource`, `taken`, `member`, `audit` and `secret`.
abbrev pub has_another : Schema → Bool
has_another schema = has_table schema (codes "resource") || has_table schema (codes "taken") || has_table schema (codes "member") || has_table schema (codes "audit") || has_table schema (codes "secret")

-- ---- classification by rows

-- The table `setting` has a row that says that the tables have this version.
abbrev pub NamesVersion : Version → Database → Type 0
NamesVersion version db = Contains (shown_settings db) (version_values version)

-- The table `setting` has no row that says that the tables have version 1 or 2.
abbrev pub NamesNoVersion : Database → Type 0
NamesNoVersion db = (version : Version) → ¬ NamesVersion version db

-- The table `setting` has no row that names this version, but one that names the other version.
abbrev pub NamesAnother : Version → Database → Type 0
NamesAnother version db = (¬ NamesVersion version db) × (other : Version) × NamesVersion other db

-- The table `setting` has exactly one row, which says that the tables have this version.
abbrev pub HasVersion : Version → Database → Type 0
HasVersion version db = IsPermutation (shown_settings db) (version_values version ∷ [])

-- The table `setting` has the row of this version and other rows.
abbrev pub HasFurtherSettings : Version → Database → Type 0
HasFurtherSettings version db = NamesVersion version db × (¬ HasVersion version db)

-- In the table `secret` of a version every row has a key, and no key occurs twice. Version 1 has no such table.
abbrev pub AreSecretsKeyed : Version → Database → Type 0
AreSecretsKeyed One db = ⊤
AreSecretsKeyed Two db = AreKeyed (db.trees 9)

-- In each table of a version except `audit` every row has a key, and no key occurs twice.
pub record AreAllKeyed (version : Version) (db : Database) : Type 0 where
  pub settings : AreKeyed (db.trees 0)
  pub resources : AreKeyed (db.trees 2)
  pub names : AreKeyed (db.trees 4)
  pub members : AreKeyed (db.trees 6)
  pub secrets : AreSecretsKeyed version db

-- The rows are a permutation of `values`, sorted by the columns at `places`.
pub record AreInOrder (places : List ℕ) (values rows : List Row) : Type 0 where
  pub same : IsPermutation values rows
  pub order : DoNotFall places rows

-- `rows` has the rows of resources of `lists`, sorted: resources by id, names by owner, attribute and text,
-- members by group and value, and door codes by id.
pub record AreRowsOf (lists : Lists) (rows : TableRows) : Type 0 where
  pub resources : AreInOrder (0 ∷ []) lists.resources rows.resources.items
  pub names : AreInOrder (0 ∷ 1 ∷ 2 ∷ []) (map owner_first lists.taken) rows.names.items
  pub members : AreInOrder (0 ∷ 1 ∷ []) (map group_first lists.member) rows.members.items
  pub secrets : AreInOrder (0 ∷ []) lists.secret rows.secrets.items

-- ---- the result of reading

-- If the connection was open before the call, nothing is changed. If it is open after the call, it was open
-- before.
pub record IsUntouched (old new : State) : Type 0 where
  pub was_open : IsTrue new.is_open → IsTrue old.is_open
  pub unchanged : IsTrue old.is_open → IsUnchanged old new

-- The classification by table names of a database without a table `setting`.
abbrev pub IsByNames : Schema → DatabaseKind → Type 0
IsByNames schema Empty = schema ≡ no_schema
IsByNames schema WrongVersion = (schema ≢ no_schema) × (has_another schema ≡ true)
IsByNames schema Foreign = (schema ≢ no_schema) × (has_another schema ≡ false)
IsByNames schema (Altered version rows) = ⊥
IsByNames schema (Tables version rows) = ⊥

-- The classification of a database with a table `setting`, by the version that it names: `Foreign` if that is
-- 1 or 2, since these versions have other schemas, and `WrongVersion` otherwise.
abbrev pub IsBySetting : Database → DatabaseKind → Type 0
IsBySetting db Empty = ⊥
IsBySetting db WrongVersion = NamesUnknown db
IsBySetting db Foreign = NamesKnown db
IsBySetting db (Altered version rows) = ⊥
IsBySetting db (Tables version rows) = ⊥

-- The schema is neither the schema of version 1 nor that of version 2.
abbrev pub IsOfNone : Schema → Type 0
IsOfNone schema = (version : Version) → schema ≢ schema_of version

-- The classification of a database whose schema is of no version.
abbrev pub IsOther : Database → DatabaseKind → Type 0
IsOther db reading = ((has_setting db.schema ≡ true) × IsBySetting db reading) ⊎ ((has_setting db.schema ≡ false) × IsByNames db.schema reading)

-- The classification by rows of a database with the tables of a version: `WrongVersion` if `setting` has the row
-- of no version; `Foreign` if it has the row of the other version alone, or if a row has no key or a key occurs
-- twice, which never happens in a valid file; `Altered` with the rows of resources if `setting` has further
-- rows beside that of the version; and `Tables` with them otherwise.
abbrev pub IsByRows : Version → Database → DatabaseKind → Type 0
IsByRows version db Empty = ⊥
IsByRows version db WrongVersion = NamesNoVersion db
IsByRows version db Foreign = NamesAnother version db ⊎ (NamesVersion version db × (¬ AreAllKeyed version db))
IsByRows version db (Altered found rows) = (found ≡ version) × HasFurtherSettings version db × AreRowsOf (shown_in version db) rows
IsByRows version db (Tables found rows) = (found ≡ version) × AreIn version db (shown_in version db) × AreRowsOf (shown_in version db) rows

-- The classification of a database: by rows if it has the schema of a version.
abbrev pub Is : Database → DatabaseKind → Type 0
Is db reading = (IsOfNone db.schema × IsOther db reading) ⊎ ((version : Version) × (db.schema ≡ schema_of version) × IsByRows version db reading)

-- `reading` is the classification of the database, and nothing is changed.
pub record IsReading (old new : State) (reading : DatabaseKind) : Type 0 where
  pub is : Is old.now reading
  pub untouched : IsUntouched old new

-- The database isn't a valid database of version 1 or 2: `AreIn` holds for no contents.
abbrev pub AreNone : Database → Type 0
AreNone db = (version : Version) (lists : Lists) → ¬ AreIn version db lists
