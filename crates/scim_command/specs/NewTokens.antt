-- The text that `token` writes.
use Rattle.std.specs.Prelude.{◌≡◌, ℕ, List, ◌++◌, length, codes}
use Rattle.hex.specs.Hex.{encode_lower}
use Rattle.scim_new_token.specs.NewToken.{IsLineOf}
use Rattle.scim_command.specs.declared.command_faults.CommandFault.{CommandFault}
use Rattle.scim_command.specs.declared.command_faults.CommandFault.TheVariants.{BadOption, NoRandomBytes, Run}
use Rattle.scim_command.specs.declared.faults.RunFault.TheVariants.{NoMemory, Output}

-- 32 bytes in hex
abbrev pub IsToken : List ℕ → Type 0
IsToken token = (bytes : List ℕ) × (length bytes ≡ 32) × (token ≡ encode_lower bytes)

-- a token on a line, and on the next line its line for the token file
pub record IsTokenText (client text : List ℕ) : Type 0 where
  pub token : List ℕ
  pub line : List ℕ
  pub is_token : IsToken token
  pub is_line : IsLineOf client token line
  pub whole : text ≡ token ++ codes "\n" ++ line ++ codes "\n"

-- the faults of `token`: an invalid name, no random bytes, a failed write, or failed allocation
abbrev pub IsTokenFault : CommandFault → Type 0
IsTokenFault BadOption = Unit {0}
IsTokenFault NoRandomBytes = Unit {0}
IsTokenFault (Run Output) = Unit {0}
IsTokenFault (Run NoMemory) = Unit {0}
IsTokenFault _ = ⊥
