-- Reasons why the options of a command are invalid.
use Rattle.std.specs.Prelude.{◌≡◌, ℕ, ◌<◌, false, List, None, Some, codes, IsSome, is_some, true}
use Rattle.clap.specs.Words.{found_of, matched_of}
use Rattle.clap.specs.declared.parser.matches.ArgMatches.{ArgMatches}
use Rattle.scim_schema.specs.declared.Kind.{Kind}
use Rattle.scim_schema.specs.Lookup.{kind_named, operation_named}
use Rattle.scim_base_url.specs.BaseUrl.{IsBaseUrl}
use Rattle.scim_policy_file.specs.Paths.{is_client_name}
use Rattle.scim_explain_paths.specs.Paths.{path_named}
use Rattle.scim_audit_listing.specs.RefusalNames.{NamesRefusal}
use Rattle.scim_cell.specs.Ids.{IsIdText}
use Rattle.scim_command.specs.EventFiles.{IsMomentText, IsNumberText}
use Rattle.scim_command.specs.Options.{Has}
use Rattle.scim_command.specs.declared.option_details.OptionDetail.{OptionDetail}
use Rattle.scim_command.specs.declared.option_details.OptionDetail.TheVariants.{Value, Alone, Both}
use Rattle.scim_command.specs.declared.option_details.ValueForm.{ValueForm}
use Rattle.scim_command.specs.declared.option_details.ValueForm.TheVariants as form

-- the text isn't a number up to 65,535
abbrev pub IsNoPort : List ℕ → Type 0
IsNoPort text = (n : ℕ) → IsNumberText text n → 65535 < n

-- the text is no path of the type that the option `kind` names
abbrev pub IsNoPath : ArgMatches → List ℕ → Type 0
IsNoPath matches text =
    (word : List ℕ) × (kind : Kind) × Has matches (codes "kind") word × (kind_named word ≡ Some kind) × (path_named kind text ≡ None)

-- the text doesn't have this form
abbrev pub Rejects : ArgMatches → ValueForm → List ℕ → Type 0
Rejects matches form.Client text = is_client_name text ≡ false
Rejects matches form.BaseUrl text = ¬ (IsBaseUrl text)
Rejects matches form.Moment text = (n : ℕ) → ¬ (IsMomentText text n)
Rejects matches form.Id text = ¬ (IsIdText text)
Rejects matches form.Number text = (n : ℕ) → ¬ (IsNumberText text n)
Rejects matches form.Port text = IsNoPort text
Rejects matches form.Operation text = operation_named text ≡ None
Rejects matches form.Kind text = kind_named text ≡ None
Rejects matches form.Path text = IsNoPath matches text
Rejects matches form.Refusal text = (n : ℕ) → ¬ (NamesRefusal text n)

-- whether the option is given, or has a default
abbrev pub IsGiven : ArgMatches → List ℕ → Type 0
IsGiven matches option = is_some (matched_of (found_of matches) option) ≡ true

-- the reason holds of the options: the option has this value, which doesn't have the form; or one of two options is given
-- without the other; or both are
abbrev pub IsReason : ArgMatches → OptionDetail → Type 0
IsReason matches (Value option value f) = Has matches option.now value.now × Rejects matches f value.now
IsReason matches (Alone one other) = IsGiven matches one.now × (is_some (matched_of (found_of matches) other.now) ≡ false)
IsReason matches (Both one other) = IsGiven matches one.now × IsGiven matches other.now
