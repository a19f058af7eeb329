-- The faults of the steps of an import.
use Rattle.std.specs.Prelude.{ℕ, List}
use Rattle.scim_json.specs.Documents.{IsDamagedAt}
use Rattle.scim_store.specs.declared.importing.ImportFault.{ImportFault}
use Rattle.scim_store.specs.declared.importing.ImportFault.TheVariants.{Users, NotEmpty, Database, NoMemory}

-- A step that only inserts rows may fail like this.
abbrev pub IsInsertFault : ImportFault → Type 0
IsInsertFault (Users item) = ⊥
IsInsertFault NotEmpty = ⊥
IsInsertFault (Database error) = Unit {0}
IsInsertFault NoMemory = Unit {0}

-- A step that reads this users file and inserts its rows may fail like this. An item that is told is damaged.
abbrev pub IsFillFault : List ℕ → List ℕ → ImportFault → Type 0
IsFillFault base users (Users item) = IsDamagedAt base users item.0
IsFillFault base users NotEmpty = ⊥
IsFillFault base users (Database error) = Unit {0}
IsFillFault base users NoMemory = Unit {0}
