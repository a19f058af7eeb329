-- The results of commands over a database, and what they leave in the database.
use Rattle.std.specs.Prelude.{◌≡◌, ◌≢◌, ◌⊎◌, ℕ, List, Option, Some, None, Result, Ok, Err, IfErr, OnOk, OnErr, IsTrue, find}
use Rattle.std.specs.Io.KnownBytes.{Appends}
use Rattle.sqlite.specs.State.{State, HasCleanDisk, Survives}
use Rattle.sqlite.specs.Tree.{Trees}
use Rattle.scim_cell.specs.Content.{Content}
use Rattle.scim_json.specs.Documents.{IsDocumentsText, IsDamagedAt}
use Rattle.scim_policy.specs.Rules.{Rule}
use Rattle.scim_shelf.specs.Stores.{Store, IsNewStore, is_at}
use Rattle.scim_store_tables.specs.Reading.{Rests}
use Rattle.scim_store_tables.specs.Tables.{no_schema}
use Rattle.scim_store.specs.declared.sql_shelf.OpenFault.{OpenFault}
use Rattle.scim_store.specs.Committing.{HasStore}
use Rattle.scim_store.specs.Shelves.{LeavesBegun, Opens, Refuses}
use Rattle.scim_wire.specs.Streams.{AppendsFront}
use Rattle.scim_command.specs.declared.command_faults.CommandFault.{CommandFault}
use Rattle.scim_command.specs.declared.command_faults.CommandFault.TheVariants.{Run}
use Rattle.scim_command.specs.declared.faults.DatabaseFault.TheVariants.{NotEmpty}
use Rattle.scim_command.specs.declared.faults.RunFault.{RunFault}
use Rattle.scim_command.specs.declared.faults.RunFault.TheVariants.{Absent, Database, Output, Users}
use Rattle.scim_command_database.specs.Explaining.{told}
use Rattle.scim_command_database.specs.Faults.{IsImportFault, of_opening}
use Rattle.scim_store.specs.Importing.{LeavesUsers}
use Rattle.scim_command_database.specs.declared.explaining.Question.{Question}

-- the result of a command as a result of the program
abbrev pub program_result : Result (Unit {0}) RunFault → Result (Unit {0}) CommandFault
program_result (Ok done) = Ok done
program_result (Err fault) = Err (Run fault)

-- The database can't be opened as a store, and `f` says why. Unless it was empty, the connection is closed, or
-- the database is unchanged or as the last commit left it. A crash leaves a state that a crash before could
-- also leave; or, if the database was empty, the tables of an empty store; or, if its tables were of version 1,
-- the migrated ones.
pub record IsRefused (base : List ℕ) (old new : State) (f : OpenFault) : Type 0 where
  pub refused : HasCleanDisk new → Refuses base old.now f
  pub rests : HasCleanDisk new → old.now.schema ≢ no_schema → Rests old new
  pub crash : Survives old new (LeavesBegun base old)

-- The program's fault says why the database can't be opened as a store.
abbrev pub FailsToOpen : List ℕ → State → State → CommandFault → Type 0
FailsToOpen base old new fault = (f : OpenFault) × (fault ≡ Run (of_opening f)) × IsRefused base old new f

-- The database was opened as this store, and its tables still hold it if the connection is open.
pub record HasKept (base : List ℕ) (old new : State) (store : Store) : Type 0 where
  pub opens : Opens base old.now store
  pub holds : (below : List ℕ) × HasStore below new store

-- If the disk returned what was written, the database was opened as a store, which it still has, and `Holds` is
-- true of the store.
abbrev pub KeepsStoreOf : List ℕ → State → State → (Store → Type 0) → Type 0
KeepsStoreOf base old new Holds = HasCleanDisk new → (store : Store) × HasKept base old new store × Holds store

-- The writer's contents grow by the whole text after Ok, and by a prefix of it after `Output`.
pub record Writes (before after : Option (List ℕ)) (text : List ℕ) (done : Result (Unit {0}) RunFault) : Type 0 where
  pub whole : OnOk done (Appends before after text)
  pub front : done ≡ Err Output → AppendsFront before after text

-- `explain` finds the question's resource in the store, and writes its text as `Writes` says; or it returns
-- `Absent`, and the store doesn't have the resource.
pub record Explains (policy : List Rule) (q : Question) (before after : Option (List ℕ)) (done : Result (Unit {0}) RunFault) (store : Store) : Type 0 where
  pub whole : OnOk done ((c : Content) × (find (is_at q.kind q.id) store.resources ≡ Some c) × Appends before after (told policy q c))
  pub front : done ≡ Err Output → (c : Content) × (find (is_at q.kind q.id) store.resources ≡ Some c) × AppendsFront before after (told policy q c)
  pub absent : done ≡ Err Absent → find (is_at q.kind q.id) store.resources ≡ None

-- A command has run over the store of a database, which it only reads: `Holds` is true of the store and the
-- command's result.
pub record RunsOver (base : List ℕ) (IsFault : RunFault → Type 0) (Holds : Result (Unit {0}) RunFault → Store → Type 0) (old new : State) (done : Result (Unit {0}) RunFault) : Type 0 where
  pub holds : KeepsStoreOf base old new (Holds done)
  pub faults : IfErr done IsFault

-- A command that only reads the store of a database fails to open it, or runs over its store.
abbrev pub Reads : List ℕ → (RunFault → Type 0) → (Result (Unit {0}) RunFault → Store → Type 0) → State → State → Result (Unit {0}) CommandFault → Type 0
Reads base IsFault Holds old new result =
    ((fault : CommandFault) × (result ≡ Err fault) × FailsToOpen base old new fault)
    ⊎ ((done : Result (Unit {0}) RunFault) × (result ≡ program_result done) × RunsOver base IsFault Holds old new done)

-- What `import` of a users file does to a database; see there.
pub record ImportsUsers (base users : List ℕ) (old new : State) (done : Result (Unit {0}) RunFault) : Type 0 where
  pub kept : HasCleanDisk new → OnOk done ((resources : List Content) × (store : Store) × IsDocumentsText base users resources × IsNewStore resources store × HasStore base new store)
  pub empty : HasCleanDisk new → OnOk done (old.now.schema ≡ no_schema)
  pub users_at : (n : ℕ) → done ≡ Err (Users n) → IsDamagedAt base users n
  pub not_empty : HasCleanDisk new → done ≡ Err (Database NotEmpty) → old.now.schema ≢ no_schema
  pub valid : done ≡ Err (Database NotEmpty) → (resources : List Content) × IsDocumentsText base users resources
  pub undone : HasCleanDisk new → OnErr done (Rests old new)
  pub crash : Survives old new (LeavesUsers base users old)
  pub is_open : HasCleanDisk new → OnOk done (IsTrue new.is_open)
  pub durable : HasCleanDisk new → OnOk done ((trees : Trees) → new.may_leave trees → LeavesUsers base users old trees)
  pub faults : IfErr done IsImportFault

-- The result is that of an import of the users file.
abbrev pub Imports : List ℕ → List ℕ → State → State → Result (Unit {0}) CommandFault → Type 0
Imports base users old new result = (done : Result (Unit {0}) RunFault) × (result ≡ program_result done) × ImportsUsers base users old new done
