-- What `archive` leaves in the new database.
use Rattle.std.specs.Prelude.{List, [], ℕ, Result, OnOk, IsTrue}
use Rattle.sqlite.specs.State.{State, HasCleanDisk}
use Rattle.sqlite.specs.Tree.{Trees}
use Rattle.scim_shelf.specs.Stores.{Store}
use Rattle.scim_store.specs.Committing.{HasStore, AreOf}
use Rattle.scim_command.specs.declared.faults.DatabaseFault.TheVariants.{NotEmpty, Unusable}
use Rattle.scim_command.specs.declared.faults.RunFault.{RunFault}
use Rattle.scim_command.specs.declared.faults.RunFault.TheVariants.{Users, Database, NoMemory}

-- the store with the same resources and no audit rows
abbrev pub without_audit : Store → Store
without_audit store = record { resources = store.resources; audit = [] }

-- If the disk returned what was written, then after Ok the connection is open, its tables hold the resources of the
-- store and no audit rows, and a crash leaves such tables.
pub record IsArchiveIn (base : List ℕ) (new : State) (done : Result (Unit {0}) RunFault) (store : Store) : Type 0 where
  pub holds : HasCleanDisk new → OnOk done (HasStore base new (without_audit store))
  pub is_open : HasCleanDisk new → OnOk done (IsTrue new.is_open)
  pub durable : HasCleanDisk new → OnOk done ((trees : Trees) → new.may_leave trees → AreOf base (without_audit store) trees)

-- the fault of `archive` for a fault of its import; if the users file of a store is faulty, the store can't be used
abbrev pub of_archiving : RunFault → RunFault
of_archiving (Users n) = Database Unusable
of_archiving fault = fault

-- `archive` may return the fault: a new database that isn't empty, an unusable one, or `NoMemory`
abbrev pub IsArchiveFault : RunFault → Type 0
IsArchiveFault (Database NotEmpty) = Unit {0}
IsArchiveFault (Database Unusable) = Unit {0}
IsArchiveFault NoMemory = Unit {0}
IsArchiveFault _ = ⊥
