-- The contents of the files of `serve`, and the faults of these files.
use Rattle.std.specs.Prelude.{◌≡◌, ◌⊎◌, ℕ, List, None, Ok, IfSome, IsSomeAnd}
use Rattle.scim_policy_file.specs.File.{policy_of}
use Rattle.scim_token.specs.TokenFile.{Entry, entries_in, first_shared}
use Rattle.scim_token.specs.Tokens.{Knows}
use Rattle.scim_token.specs.declared.token_table.Tokens.{Tokens}
use Rattle.scim_command.specs.Faults.{IsOfPolicyAt, IsOfTokensAt, IsOfAdminTokensAt}
use Rattle.scim_command.specs.declared.command_faults.CommandFault.{CommandFault}
use Rattle.scim_command.specs.declared.serve_files.ServeFiles.{ServeFiles}
use Rattle.scim_command.specs.declared.serve_options.ServeOptions.{ServeOptions}

-- the table has the tokens of a valid token file
abbrev pub AreOfTokenFile : Tokens → Type 0
AreOfTokenFile tokens = (text : List ℕ) × (entries : List Entry) × (entries_in text ≡ Ok entries) × Knows entries tokens

-- the table `admins` has the tokens of a valid token file, none of which is one of `clients`
abbrev pub AreOfAdminFile : Tokens → Tokens → Type 0
AreOfAdminFile clients admins =
    (text : List ℕ) × (entries : List Entry) × (entries_in text ≡ Ok entries) × Knows entries admins × ((known : List Entry) → Knows known clients → first_shared known text ≡ None)

-- the contents of valid files, with no token in both token files
pub record AreOfServeFiles (files : ServeFiles) : Type 0 where
  pub policy : (text : List ℕ) × (policy_of text ≡ Ok files.policy)
  pub tokens : AreOfTokenFile files.tokens
  pub admin_tokens : IfSome files.admin_tokens (AreOfAdminFile files.tokens)

-- the fault is one of the files that the options of `serve` name
abbrev pub IsOfServeFiles : ServeOptions → CommandFault → Type 0
IsOfServeFiles o fault = IsOfPolicyAt o.policy.now fault ⊎ (IsOfTokensAt o.tokens.now fault ⊎ IsSomeAnd o.admin (λ admin. IsOfAdminTokensAt admin.tokens.now fault))
