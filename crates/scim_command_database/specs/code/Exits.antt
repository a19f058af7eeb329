-- The faults of functions that read a store.
use Rattle.scim_command.specs.declared.faults.DatabaseFault.TheVariants.{Unusable}
use Rattle.scim_command.specs.declared.faults.RunFault.{RunFault}
use Rattle.scim_command.specs.declared.faults.RunFault.TheVariants.{Database, NoMemory}

-- the fault is an unusable database, or `NoMemory`
abbrev pub IsOfShelf : RunFault → Type 0
IsOfShelf (Database Unusable) = Unit {0}
IsOfShelf NoMemory = Unit {0}
IsOfShelf _ = ⊥
