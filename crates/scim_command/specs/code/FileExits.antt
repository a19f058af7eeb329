-- The faults of functions that read options.
use Rattle.scim_command.specs.declared.command_faults.CommandFault.{CommandFault}
use Rattle.scim_command.specs.declared.command_faults.CommandFault.TheVariants.{BadOption, Run}
use Rattle.scim_command.specs.declared.faults.RunFault.TheVariants.{NoMemory}

-- the fault is `BadOption` or `NoMemory`
abbrev pub IsOfOptions : CommandFault → Type 0
IsOfOptions BadOption = Unit {0}
IsOfOptions (Run NoMemory) = Unit {0}
IsOfOptions _ = ⊥
