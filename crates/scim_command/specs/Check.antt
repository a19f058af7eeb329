-- The text that `check` writes for a policy and perhaps a token file.
use Rattle.std.specs.Prelude.{◌≡◌, Bool, ℕ, List, [], ◌++◌, length, codes, decimal, Option, MatchOption, Ok, if◌then◌else◌}
use Rattle.scim_policy.specs.Rules.{Rule}
use Rattle.scim_policy_file.specs.File.{policy_of}
use Rattle.scim_explain.specs.Idle.{idle_rules, idle_lines}
use Rattle.scim_policy_sentences.specs.Sentences.{rule_sentences}
use Rattle.scim_policy_warnings.specs.Texts.{warning_lines}
use Rattle.scim_policy_warnings.specs.Tokens.{token_lines}
use Rattle.scim_policy_warnings.specs.Warnings.{warnings}
use Rattle.scim_token.specs.TokenFile.{Entry, entries_in}
use Rattle.scim_command.specs.declared.faults.RunFault.{RunFault}
use Rattle.scim_command.specs.declared.faults.RunFault.TheVariants.{Policy, Tokens, Output, NoMemory}

-- if `verbose` is true: each rule as a sentence, then the rules that can never decide, then the warnings; otherwise empty
abbrev pub description : Bool → List Rule → List ℕ
description verbose rules = if verbose then rule_sentences rules ++ (idle_lines (idle_rules rules) ++ warning_lines (warnings rules)) else []

-- the number of rules, their description if `verbose` is true, and then these lines
abbrev pub report : Bool → List Rule → List ℕ → List ℕ
report verbose rules lines = codes "ok, " ++ decimal (length rules) ++ codes " rules\n" ++ description verbose rules ++ lines

-- the lines about the clients that have no token or no rule; none without a token file
abbrev pub AreTokenLines : List Rule → Option (List ℕ) → List ℕ → Type 0
AreTokenLines rules tokens lines =
    MatchOption tokens (lines ≡ []) (λ file. (entries : List Entry) × (entries_in file ≡ Ok entries) × (lines ≡ token_lines rules entries))

-- the text that `check` writes for these files, which are valid
pub record IsCheckText (policy : List ℕ) (tokens : Option (List ℕ)) (verbose : Bool) (text : List ℕ) : Type 0 where
  pub rules : List Rule
  pub lines : List ℕ
  pub valid : policy_of policy ≡ Ok rules
  pub about_tokens : AreTokenLines rules tokens lines
  pub whole : text ≡ report verbose rules lines

-- the faults of `check`: an invalid policy file or token file, a failed write, or failed allocation
abbrev pub IsCheckFault : RunFault → Type 0
IsCheckFault (Policy rule cause) = Unit {0}
IsCheckFault (Tokens line) = Unit {0}
IsCheckFault Output = Unit {0}
IsCheckFault NoMemory = Unit {0}
IsCheckFault _ = ⊥
