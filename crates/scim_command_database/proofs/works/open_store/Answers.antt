use Rattle.std.proofs.Common.{ap}
use Rattle.scim_command.specs.declared.command_faults.CommandFault.TheVariants.{Run}
use Rattle.scim_command_database.proofs.works.open_store.Goals as goal

pub returns-in-Err-clause-refused : goal.returns-in-Err-clause-refused
returns-in-Err-clause-refused g c = (
  c.in-Err.fault,
  ap Run c.open_fault.ensures,
  record { refused = c.in-Err.ensures.refused; rests = c.in-Err.ensures.rests; crash = c.in-Err.ensures.crash_at_err },
)
