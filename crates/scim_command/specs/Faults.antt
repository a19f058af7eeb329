-- Faults of files and shelves as faults of a command, and the exit status of the program.
use Rattle.std.specs.Prelude.{◌≡◌, ◌⊎◌, ℕ, List, string_bytes}
use Rattle.scim_text.specs.declared.memory.Failed.{Failed}
use Rattle.scim_text.specs.declared.memory.Failed.TheVariants as failed
use Rattle.scim_json.specs.declared.faults.DamagedItem.{DamagedItem}
use Rattle.scim_policy_file.specs.declared.faults.Cause.TheVariants.{Json}
use Rattle.scim_policy_file.specs.declared.faults.PolicyFault.{PolicyFault}
use Rattle.scim_shelf.specs.declared.faults.ShelfFault.{ShelfFault}
use Rattle.scim_command.specs.declared.command_faults.ArchiveCause.{ArchiveCause}
use Rattle.scim_command.specs.declared.command_faults.CommandFault.{CommandFault}
use Rattle.scim_command.specs.declared.command_faults.CommandFault.TheVariants.{NotText, BadOption, CannotArchive, CannotRead, CannotWrite, Run}
use Rattle.scim_command.specs.declared.faults.DatabaseFault.TheVariants.{Unusable}
use Rattle.scim_command.specs.declared.faults.RunFault.{RunFault}
use Rattle.scim_command.specs.declared.faults.RunFault.TheVariants.{Policy, Users, Tokens, AdminTokens, SharedToken, Events, Database, NoMemory}
use Rattle.scim_command.specs.declared.files.FileKind.{FileKind}
use Rattle.scim_command.specs.declared.files.FileKind.TheVariants as file

-- the fault of a command for a fault of a policy file
abbrev pub of_policy : Failed PolicyFault → RunFault
of_policy (failed.Because fault) = Policy fault.rule fault.cause
of_policy failed.NoMemory = NoMemory

-- the fault of a command for a fault of a users file
abbrev pub of_document : Failed DamagedItem → RunFault
of_document (failed.Because item) = Users item.0
of_document failed.NoMemory = NoMemory

-- the fault of a command for a fault of a shelf: an unusable database, or `NoMemory`
abbrev pub of_shelf : Failed ShelfFault → RunFault
of_shelf (failed.Because fault) = Database Unusable
of_shelf failed.NoMemory = NoMemory

-- the fault is `Users` or `NoMemory`
abbrev pub IsOfUsers : RunFault → Type 0
IsOfUsers (Users n) = Unit {0}
IsOfUsers NoMemory = Unit {0}
IsOfUsers _ = ⊥

-- the fault of a command for a file of this kind that isn't UTF-8
abbrev pub of_no_text : FileKind → RunFault
of_no_text file.Policy = Policy 0 Json
of_no_text file.Tokens = Tokens 0
of_no_text file.AdminTokens = AdminTokens 0
of_no_text file.Users = Users 0
of_no_text file.Events = Events 0

-- the file at this path can't be read, or its path can't be copied for want of memory
abbrev pub IsOfPath : List ℕ → CommandFault → Type 0
IsOfPath path (CannotRead p) = string_bytes p ≡ path
IsOfPath path (Run NoMemory) = Unit {0}
IsOfPath path _ = ⊥

-- the file at this path can't be written, or its path can't be copied for want of memory
abbrev pub IsOfOutputPath : List ℕ → CommandFault → Type 0
IsOfOutputPath path (CannotWrite p) = string_bytes p ≡ path
IsOfOutputPath path (Run NoMemory) = Unit {0}
IsOfOutputPath path _ = ⊥

-- the database can't be archived to the file at this path for this reason, or the path can't be copied for want of
-- memory
abbrev pub IsOfArchive : List ℕ → ArchiveCause → CommandFault → Type 0
IsOfArchive path cause (CannotArchive p c) = (string_bytes p ≡ path) × (c ≡ cause)
IsOfArchive path cause (Run NoMemory) = Unit {0}
IsOfArchive path cause _ = ⊥

-- the file of this kind at this path can't be read, or it isn't UTF-8
abbrev pub IsOfFile : FileKind → List ℕ → CommandFault → Type 0
IsOfFile kind path fault = IsOfPath path fault ⊎ (fault ≡ Run (of_no_text kind))

-- the policy file at this path can't be read, isn't UTF-8 or isn't valid, or memory ran out
abbrev pub IsOfPolicyAt : List ℕ → CommandFault → Type 0
IsOfPolicyAt path (Run (Policy rule cause)) = Unit {0}
IsOfPolicyAt path fault = IsOfPath path fault

-- the token file at this path can't be read, isn't UTF-8 or isn't valid, or memory ran out
abbrev pub IsOfTokensAt : List ℕ → CommandFault → Type 0
IsOfTokensAt path (Run (Tokens n)) = Unit {0}
IsOfTokensAt path fault = IsOfPath path fault

-- the administrators' token file at this path can't be read, isn't UTF-8 or isn't valid, it shares a token with
-- the clients' file, or memory ran out
abbrev pub IsOfAdminTokensAt : List ℕ → CommandFault → Type 0
IsOfAdminTokensAt path (Run (AdminTokens n)) = Unit {0}
IsOfAdminTokensAt path (Run (SharedToken n)) = Unit {0}
IsOfAdminTokensAt path fault = IsOfPath path fault

-- the faults of a command that its options name files for: an invalid option, a file that can't be read, and
-- the faults that satisfy `Is`
abbrev pub IsOverFiles : (RunFault → Type 0) → CommandFault → Type 0
IsOverFiles Is BadOption = Unit {0}
IsOverFiles Is (CannotRead path) = Unit {0}
IsOverFiles Is (Run fault) = Is fault
IsOverFiles Is _ = ⊥

-- the exit status of the program for an error: 2 for an error in the command line, and 1 for any other error
abbrev pub exit_status_of : CommandFault → ℕ
exit_status_of NotText = 2
exit_status_of BadOption = 2
exit_status_of _ = 1
