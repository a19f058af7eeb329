-- The result of examining a database.
use Rattle.std.specs.Prelude.{◌≡◌, ◌⊎◌, ℕ, List, map, length, All, Option, Some, None, IsTrue, ⊤}
use Rattle.sqlite.specs.Effect.{Database}
use Rattle.sqlite.specs.State.{State}
use Rattle.scim_shelf_cache.specs.declared.contents.CacheContents.{CacheContents}
use Rattle.scim_shelf_cache.specs.Caches.{HasCached}
use Rattle.scim_shelf.specs.Stores.{Store, AreKeyed}
use Rattle.scim_cell.specs.Ids.{IsId}
use Rattle.scim_store_tables.specs.Tables.{no_schema, schema_of}
use Rattle.scim_store_tables.specs.Lists.{AreIn}
use Rattle.scim_store_tables.specs.Reading.{shown_in}
use Rattle.scim_store_tables.specs.declared.versions.Version.{Version}
use Rattle.scim_store_tables.specs.Whole.{AreRowsOf, HasFurtherSettings, Is, IsUntouched}
use Rattle.scim_store_tables.specs.declared.database_kinds.TableRows.{TableRows}
use Rattle.scim_store_tables.specs.declared.database_kinds.DatabaseKind.TheVariants.{WrongVersion as OtherVersion, Foreign as OtherProgram}
use Rattle.scim_store.specs.declared.examining.Examined.{Examined}
use Rattle.scim_store.specs.declared.examining.Examined.TheVariants.{Empty, Stands, WrongVersion, Damaged, Foreign}
use Rattle.scim_store_rows.specs.AuditBack.{IsSound}
use Rattle.scim_store.specs.Damage.{Tables, HoldsAt, IsLeastDamage}
use Rattle.scim_store.specs.declared.damage.Judged.{Judged}
use Rattle.scim_store.specs.declared.damage.Judged.TheVariants.{Sound, Damaged as DamagedAt, Foreign as ForeignRows}
use Rattle.scim_store_rows.specs.Stands.{Entry, IsEntry, StandsForIn, lists_of}

-- The tables of neither version hold a valid store with valid audit rows.
abbrev pub StandForNoSound : List ℕ → Database → Type 0
StandForNoSound base db = (version : Version) (store : Store) → All IsSound store.audit → StandsForIn version base db store → ⊥

-- The rows that were read from `resource`, `taken`, `member` and `secret`.
abbrev pub resource_tables : TableRows → Tables
resource_tables rows = record { resources = rows.resources.items; names = rows.names.items; members = rows.members.items; secrets = rows.secrets.items }

-- The least id that has rows in the tables of a version, but not exactly the rows of one valid resource.
pub record IsDamagedAt (base : List ℕ) (db : Database) (id : List ℕ) : Type 0 where
  pub version : Version
  pub schema : db.schema ≡ schema_of version
  pub rows : TableRows
  pub read : AreRowsOf (shown_in version db) rows
  pub least : IsLeastDamage version base (resource_tables rows) id

-- The database has the tables of a version, perhaps with further rows of `setting`, and each id has no rows, or
-- exactly the rows of one valid resource.
pub record HoldsAtEach (base : List ℕ) (db : Database) : Type 0 where
  pub version : Version
  pub tables : AreIn version db (shown_in version db) ⊎ HasFurtherSettings version db
  pub rows : TableRows
  pub read : AreRowsOf (shown_in version db) rows
  pub holds : (id : List ℕ) → IsId id → HoldsAt version base (resource_tables rows) id

-- The result for tables of a version with valid rows of resources, by the number of audit rows; `None` if the
-- audit rows aren't valid.
abbrev pub by_count : Version → Option ℕ → Examined
by_count version (Some count) = Stands version count
by_count version None = Foreign

-- The result for tables with further rows of `setting`, by the rows of resources.
abbrev pub by_judged : Judged → Examined
by_judged Sound = Foreign
by_judged (DamagedAt id) = Damaged id
by_judged ForeignRows = Foreign

-- The meaning of a result for a store of resources with locations below the base URI. `Empty`: the database
-- is empty. `Stands`: the tables of this version hold a valid store with this many audit rows, all valid.
-- `WrongVersion`: the tables are of another version than 1 and 2. `Damaged`: this is the least id with invalid
-- rows. `Foreign`: either the database doesn't have the tables of the version that it names, or another program
-- made it, or the rows of each id are valid. The last three results are returned only if the tables don't hold
-- a valid store with valid audit rows.
abbrev pub IsFor : List ℕ → Database → Examined → Type 0
IsFor base db Empty = db.schema ≡ no_schema
IsFor base db (Stands version count) = (store : Store) × StandsForIn version base db store × All IsSound store.audit × (length store.audit ≡ count)
IsFor base db WrongVersion = Is db OtherVersion × StandForNoSound base db
IsFor base db (Damaged id) = IsDamagedAt base db id × StandForNoSound base db
IsFor base db Foreign = (Is db OtherProgram ⊎ HoldsAtEach base db) × StandForNoSound base db

-- A connection whose tables are found to hold a valid store is open. Other results say nothing of that.
abbrev pub IsOpenIf : Examined → State → Type 0
IsOpenIf (Stands version count) s = IsTrue s.is_open
IsOpenIf _ s = ⊤

-- The tables of a version have exactly the rows of the store. The version need not know all its attributes.
pub record HasRowsOf (version : Version) (base : List ℕ) (db : Database) (store : Store) : Type 0 where
  pub entries : List Entry
  pub resources : map (λ e. e.content) entries ≡ store.resources
  pub sound : All (IsEntry base) entries
  pub keyed : AreKeyed store.resources
  pub tables : AreIn version db (lists_of entries store.audit)

-- The copies, unless memory ran out, are those of the resources of each store whose rows the tables of the
-- version have.
abbrev pub HasCopied : Version → List ℕ → Database → CacheContents → Type 0
HasCopied version base db contents = (store : Store) → HasRowsOf version base db store → HasCached store.resources contents

-- If the tables are found to hold a valid store, its resources have been copied. Other results say nothing of
-- the copies.
abbrev pub HasCopiedIf : Examined → List ℕ → Database → CacheContents → Type 0
HasCopiedIf (Stands version count) base db contents = HasCopied version base db contents
HasCopiedIf _ base db contents = ⊤

-- The result is correct for the database, and nothing is changed.
pub record Examines (base : List ℕ) (old new : State) (examined : Examined) : Type 0 where
  pub is : IsFor base old.now examined
  pub untouched : IsUntouched old new

-- If these are the rows of resources of the tables of a version, the result is correct for the database, and
-- nothing is changed.
pub record ExaminesRows (version : Version) (base : List ℕ) (rows : TableRows) (old new : State) (examined : Examined) : Type 0 where
  pub is : AreIn version old.now (shown_in version old.now) → AreRowsOf (shown_in version old.now) rows → IsFor base old.now examined
  pub untouched : IsUntouched old new
