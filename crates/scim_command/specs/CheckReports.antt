-- The report of `check` over the files that its options name.
use Rattle.std.specs.Prelude.{◌≡◌, ℕ, Bool, List, Option, codes, is_some}
use Rattle.clap.specs.declared.parser.matches.ArgMatches.{ArgMatches}
use Rattle.scim_command.specs.Check.{IsCheckText}
use Rattle.scim_command.specs.Options.{IsFlag, value_of}

-- the text that `check` writes for a policy file, for a token file if the options name one, and with a description if they
-- ask for it
pub record IsCheckReport (matches : ArgMatches) (text : List ℕ) : Type 0 where
  pub policy : List ℕ
  pub tokens : Option (List ℕ)
  pub verbose : Bool
  pub given : is_some tokens ≡ is_some (value_of matches (codes "tokens"))
  pub flag : IsFlag matches (codes "verbose") verbose
  pub is_text : IsCheckText policy tokens verbose text
