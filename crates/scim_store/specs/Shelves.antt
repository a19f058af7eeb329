-- The store of a shelf over a connection, the effects of its commits, and the result of opening a database.
use Rattle.std.specs.Prelude.{◌≡◌, ◌⊎◌, ℕ, List, length, All, ⊤, IsTrue, Option, Result, OnOk}
use Rattle.sqlite.specs.Effect.{Database}
use Rattle.sqlite.specs.Tree.{Trees}
use Rattle.sqlite.specs.State.{State, HasCleanDisk, Survives}
use Rattle.scim_cell.specs.Content.{Content}
use Rattle.scim_shelf.specs.declared.changes.Change.{Change}
use Rattle.scim_shelf.specs.Stores.{Store, CanKeep, IsOld}
use Rattle.scim_store_tables.specs.Steps.{Leaves}
use Rattle.scim_store_tables.specs.Tables.{no_schema, old_schema}
use Rattle.scim_store_tables.specs.declared.versions.Version.{Version}
use Rattle.scim_store.specs.declared.examining.Examined.TheVariants.{WrongVersion as OtherVersion, Damaged as DamagedAt, Foreign}
use Rattle.scim_store.specs.declared.sql_shelf.OpenFault.{OpenFault}
use Rattle.scim_store.specs.declared.sql_shelf.OpenFault.TheVariants.{WrongVersion, Damaged, Store as NoStore, Device, NoMemory}
use Rattle.scim_store.specs.Beginning.{no_store}
use Rattle.scim_store.specs.Committing.{HasStore, AreOf, Changes}
use Rattle.scim_store.specs.Opening.{IsFor}
use Rattle.scim_store_rows.specs.AuditBack.{IsSound}
use Rattle.scim_store_rows.specs.Stands.{StandsForIn, StandsForOld, StandsFor}

-- If the disk returned what was written, the tables hold the store. The audit of the store has `rows` rows.
pub record IsKeptIn (base : List ℕ) (s : State) (rows : ℕ) (store : Store) : Type 0 where
  pub stored : HasCleanDisk s → HasStore base s store
  pub rows_are : length store.audit ≡ rows

-- The shelf represents the store, and the change may be made to the store.
abbrev pub MayMake : {H : Type 0} → (H → Store → Type 0) → H → Change → Store → Type 0
MayMake Stands shelf change store = Stands shelf store × CanKeep store change

-- The shelf represents the store, the change may be made to the store, and `old` is the stored resource with
-- the id of the change, if any.
abbrev pub MayMakeOver : {H : Type 0} → (H → Store → Type 0) → H → Option Content → Change → Store → Type 0
MayMakeOver Stands shelf old change store = MayMake Stands shelf change store × IsOld store.resources change old

-- A crash leaves a state that a crash before the commit could also leave, or the tables of the store that `next`
-- gives. If the commit succeeded and the disk returned what was written, a crash leaves the tables of that store.
-- The store before the commit must satisfy `May`.
pub record CommitsWhole {T E : Type 0} (base : List ℕ) (next : Store → Store) (May : Store → Type 0) (old new : State) (result : Result T E) : Type 0 where
  pub crash : Survives old new (Leaves (Changes base next May) old.now)
  pub durable : HasCleanDisk new → OnOk result ((store : Store) → May store → (trees : Trees) → new.may_leave trees → AreOf base (next store) trees)

-- The store of an opened database: an empty store if the database was empty, and otherwise the store that its
-- tables of version 1 or 2 hold, with valid audit rows.
abbrev pub Opens : List ℕ → Database → Store → Type 0
Opens base db store = ((db.schema ≡ no_schema) × (store ≡ no_store)) ⊎ ((version : Version) × StandsForIn version base db store × All IsSound store.audit)

-- A database is opened as this store, `rows` is the number of its audit rows, and its connection is open.
pub record HasOpened (base : List ℕ) (db : Database) (s : State) (rows : ℕ) (store : Store) : Type 0 where
  pub is_open : IsTrue s.is_open
  pub kept : IsKeptIn base s rows store
  pub opens : Opens base db store

-- The meaning of the fault with which opening a database fails. `Device` and `NoMemory` say nothing about the
-- database.
abbrev pub Refuses : List ℕ → Database → OpenFault → Type 0
Refuses base db WrongVersion = IsFor base db OtherVersion
Refuses base db (Damaged id) = IsFor base db (DamagedAt id)
Refuses base db NoStore = IsFor base db Foreign
Refuses base db Device = ⊤
Refuses base db NoMemory = ⊤

-- A crash may leave the tables of an empty store, if the database was empty.
abbrev pub LeavesNew : List ℕ → State → Trees → Type 0
LeavesNew base s trees = (s.now.schema ≡ no_schema) × ((db : Database) × (trees ≡ db.trees) × (IsTrue s.is_open → StandsFor base db no_store))

-- A crash may leave the tables of version 2 with the store of the tables of version 1, if the database had
-- these.
abbrev pub LeavesMigrated : List ℕ → State → Trees → Type 0
LeavesMigrated base s trees = (s.now.schema ≡ old_schema) × ((db : Database) × (trees ≡ db.trees) × (IsTrue s.is_open → (store : Store) → StandsForOld base s.now store → StandsFor base db store))

-- The tables that a crash may leave because of opening a database: those of an empty store if the database was
-- empty, the migrated ones if it had the tables of version 1, and otherwise none.
abbrev pub LeavesBegun : List ℕ → State → Trees → Type 0
LeavesBegun base s trees = LeavesNew base s trees ⊎ LeavesMigrated base s trees
