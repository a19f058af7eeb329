-- Why an export can't be carried on.
use Rattle.scim_text.specs.declared.memory.Failed.{Failed}
use Rattle.scim_text.specs.declared.memory.Failed.TheVariants as failed
use Rattle.scim_shelf.specs.declared.faults.ShelfFault.{ShelfFault}
use Rattle.scim_admin_streams.specs.declared.export_jobs.ExportFault.{ExportFault}
use Rattle.scim_admin_streams.specs.declared.export_jobs.ExportFault.TheVariants.{Device, NoMemory}

-- the fault of an export whose shelf failed
abbrev pub of_shelf : Failed ShelfFault → ExportFault
of_shelf (failed.Because fault) = Device
of_shelf failed.NoMemory = NoMemory
