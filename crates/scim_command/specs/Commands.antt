-- The commands of the program and their names.
use Rattle.std.specs.Prelude.{ℕ, List, [], ◌∷◌, Option, find, codes}
use Rattle.scim_schema.specs.Lookup.{is_same_text}
use Rattle.scim_command.specs.declared.command_line.CommandName.{CommandName}
use Rattle.scim_command.specs.declared.command_line.CommandName.TheVariants.{Once, Check, Serve, Replay, Explain, Import, Export, Audit, Archive, Token}

-- all commands
abbrev pub commands : List CommandName
commands = Once ∷ Check ∷ Serve ∷ Replay ∷ Explain ∷ Import ∷ Export ∷ Audit ∷ Archive ∷ Token ∷ []

-- the name of a command
abbrev pub command_name : CommandName → List ℕ
command_name Once = codes "once"
command_name Check = codes "check"
command_name Serve = codes "serve"
command_name Replay = codes "replay"
command_name Explain = codes "explain"
command_name Import = codes "import"
command_name Export = codes "export"
command_name Audit = codes "audit"
command_name Archive = codes "archive"
command_name Token = codes "token"

-- the command with this name; `None` if there is none
abbrev pub command_named : List ℕ → Option CommandName
command_named name = find (λ c. is_same_text name (command_name c)) commands
