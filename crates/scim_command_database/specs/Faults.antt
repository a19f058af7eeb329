-- The errors of a command over a database.
use Rattle.scim_store.specs.declared.sql_shelf.OpenFault.{OpenFault}
use Rattle.scim_store.specs.declared.sql_shelf.OpenFault.TheVariants as opening
use Rattle.scim_store.specs.declared.importing.ImportFault.{ImportFault}
use Rattle.scim_store.specs.declared.importing.ImportFault.TheVariants as importing
use Rattle.sqlite.specs.declared.error.Error.{Error}
use Rattle.sqlite.specs.declared.error.Error.TheVariants.{SqliteFailure}
use Rattle.sqlite.specs.declared.error.ErrorCode.TheVariants.{OutOfMemory}
use Rattle.scim_command.specs.declared.faults.DatabaseFault.TheVariants.{WrongVersion, Damaged, Unusable, NotEmpty}
use Rattle.scim_command.specs.declared.faults.RunFault.{RunFault}
use Rattle.scim_command.specs.declared.faults.RunFault.TheVariants.{Users, Database, Output, NoMemory}

-- the fault of a command for an error that connecting to a database returned
abbrev pub of_connecting : Error → RunFault
of_connecting (SqliteFailure OutOfMemory) = NoMemory
of_connecting _ = Database Unusable

-- the fault of a command for a database that can't be opened
abbrev pub of_opening : OpenFault → RunFault
of_opening opening.WrongVersion = Database WrongVersion
of_opening (opening.Damaged id) = Database (Damaged id)
of_opening opening.Store = Database Unusable
of_opening opening.Device = Database Unusable
of_opening opening.NoMemory = NoMemory

-- the fault of a command for a failed import
abbrev pub of_importing : ImportFault → RunFault
of_importing (importing.Users item) = Users item.0
of_importing importing.NotEmpty = Database NotEmpty
of_importing (importing.Database (SqliteFailure OutOfMemory)) = NoMemory
of_importing (importing.Database error) = Database Unusable
of_importing importing.NoMemory = NoMemory

-- a command that reads a store and writes a text may return the fault: an unusable database, a failed write,
-- or `NoMemory`
abbrev pub IsDatabaseFault : RunFault → Type 0
IsDatabaseFault (Database Unusable) = Unit {0}
IsDatabaseFault Output = Unit {0}
IsDatabaseFault NoMemory = Unit {0}
IsDatabaseFault _ = ⊥

-- `import` may return the fault: an invalid users file, a database that isn't empty or is unusable, or
-- `NoMemory`
abbrev pub IsImportFault : RunFault → Type 0
IsImportFault (Users n) = Unit {0}
IsImportFault (Database NotEmpty) = Unit {0}
IsImportFault (Database Unusable) = Unit {0}
IsImportFault NoMemory = Unit {0}
IsImportFault _ = ⊥
