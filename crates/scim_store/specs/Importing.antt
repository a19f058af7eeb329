-- The result of an import of a users file into an empty database.
use Rattle.std.specs.Prelude.{◌≡◌, ℕ, List, [], map, All, IsPermutation, IsTrue}
use Rattle.sqlite.specs.Effect.{Database}
use Rattle.sqlite.specs.State.{State}
use Rattle.sqlite.specs.Tree.{Trees}
use Rattle.scim_text.specs.declared.memory.Failed.{Failed}
use Rattle.scim_text.specs.declared.memory.Failed.TheVariants as failed
use Rattle.scim_cell.specs.Content.{Content}
use Rattle.scim_json.specs.Documents.{IsDocumentsText}
use Rattle.scim_json.specs.declared.faults.DamagedItem.{DamagedItem}
use Rattle.scim_shelf.specs.Stores.{Store, IsNewStore}
use Rattle.scim_store_tables.specs.Lists.{Are}
use Rattle.scim_store_tables.specs.Tables.{no_schema}
use Rattle.scim_store_rows.specs.Stands.{Entry, IsEntry, StandsFor, lists_of}
use Rattle.scim_store.specs.declared.importing.ImportFault.{ImportFault}
use Rattle.scim_store.specs.declared.importing.ImportFault.TheVariants.{Users, NoMemory}

-- The fault of an import whose users file can't be read.
abbrev pub of_reading : Failed DamagedItem → ImportFault
of_reading (failed.Because item) = Users item
of_reading failed.NoMemory = NoMemory

-- The tables hold the rows of the resources `cs`, which have locations below the base URI, in any order, and
-- no audit rows.
pub record HoldRowsOf (base : List ℕ) (cs : List Content) (db : Database) : Type 0 where
  pub entries : List Entry
  pub resources : IsPermutation (map (λ e. e.content) entries) cs
  pub sound : All (IsEntry base) entries
  pub tables : Are db (lists_of entries [])

-- The tables hold the rows of the resources of the users file `users`, and no audit rows.
abbrev pub HoldUsers : List ℕ → List ℕ → Database → Type 0
HoldUsers base users db = (cs : List Content) × IsDocumentsText base users cs × HoldRowsOf base cs db

-- A database without tables, indexes and views becomes a database with the six tables, which hold the rows
-- of the resources of the users file.
abbrev pub Fills : List ℕ → List ℕ → Database → Database → Type 0
Fills base users old new = old.schema ≡ no_schema → HoldUsers base users new

-- Because of an import, a crash may leave these trees: the database was empty before, and the trees belong to
-- tables with the rows of all these resources.
abbrev pub LeavesImported : List ℕ → List Content → State → Trees → Type 0
LeavesImported base cs s trees = (s.now.schema ≡ no_schema) × ((db : Database) × (trees ≡ db.trees) × HoldRowsOf base cs db × ((store : Store) → IsNewStore cs store → StandsFor base db store))

-- Because of the import of a users file, a crash may leave these trees: the database was empty before, and the
-- trees belong to tables with the rows of all resources of the file.
abbrev pub LeavesUsers : List ℕ → List ℕ → State → Trees → Type 0
LeavesUsers base users s trees = (cs : List Content) × IsDocumentsText base users cs × LeavesImported base cs s trees

-- An import has succeeded: the database was empty, the connection is open and nothing is uncommitted, and the
-- tables hold a new store of the resources. So no two of them have the same id or share a unique name.
pub record HasImported (base : List ℕ) (cs : List Content) (old new : State) : Type 0 where
  pub was_empty : old.now.schema ≡ no_schema
  pub is_open : IsTrue new.is_open
  pub settled : new.now ≡ new.committed
  pub store : Store
  pub is_new : IsNewStore cs store
  pub stands : StandsFor base new.now store
