-- Why the file of a database can't be opened, read or written.
use Rattle.std.specs.Prelude.{Option, Some, None}
use Rattle.sqlite.specs.declared.error.Error.{Error}
use Rattle.sqlite.specs.declared.error.Error.TheVariants.{SqliteFailure}
use Rattle.sqlite.specs.declared.error.ErrorCode.TheVariants as code
use Rattle.scim_store_causes.specs.declared.file_causes.FileCause.{FileCause}
use Rattle.scim_store_causes.specs.declared.file_causes.FileCause.TheVariants.{Busy, CannotOpen, NotADatabase, Damaged, DiskFull, Closed, Unreadable}

-- The reason that an error of the database gives.
abbrev pub file_cause : Error → FileCause
file_cause (SqliteFailure code.DatabaseBusy) = Busy
file_cause (SqliteFailure code.CannotOpen) = CannotOpen
file_cause (SqliteFailure code.NotADatabase) = NotADatabase
file_cause (SqliteFailure code.DatabaseCorrupt) = Damaged
file_cause (SqliteFailure code.DiskFull) = DiskFull
file_cause (SqliteFailure code.Closed) = Closed
file_cause _ = Unreadable

-- The reason why a connection can't be opened; `None` if memory ran out.
abbrev pub open_cause : Error → Option FileCause
open_cause (SqliteFailure code.OutOfMemory) = None
open_cause e = Some (file_cause e)
