-- The options of the commands: the values that the command line has for them, or their defaults.
use Rattle.std.specs.Prelude.{◌≡◌, ℕ, Bool, true, false, not, List, Option, None, Some, codes, IsSome, MatchOption, if◌then◌else◌}
use Rattle.std.specs.Option.{option_copied}
use Rattle.clap.specs.Words.{first_value, found_of, one_text}
use Rattle.clap.specs.declared.parser.matches.ArgMatches.{ArgMatches}
use Rattle.scim_schema.specs.declared.Kind.{Kind}
use Rattle.scim_schema.specs.Lookup.{kind_named, operation_named}
use Rattle.scim_filter_grammar.specs.declared.tree.Meant.{Meant}
use Rattle.scim_base_url.specs.BaseUrl.{IsBaseUrl}
use Rattle.scim_explain_paths.specs.Paths.{path_named}
use Rattle.scim_command.specs.declared.database_options.ArchiveOptions.{ArchiveOptions}
use Rattle.scim_audit_listing.specs.declared.filters.AuditFilter.{AuditFilter}
use Rattle.scim_audit_listing.specs.declared.listings.LineFormat.{LineFormat}
use Rattle.scim_audit_listing.specs.declared.listings.LineFormat.TheVariants.{Words, Json}
use Rattle.scim_audit_listing.specs.declared.listings.Portion.{Portion}
use Rattle.scim_audit_listing.specs.declared.listings.Portion.TheVariants.{First, Last}
use Rattle.scim_audit_listing.specs.RefusalNames.{NamesRefusal}
use Rattle.scim_command.specs.declared.audit_options.AuditOptions.{AuditOptions}
use Rattle.scim_command.specs.declared.database_options.ImportOptions.{ImportOptions}
use Rattle.scim_command.specs.declared.explain_options.ExplainOptions.{ExplainOptions}
use Rattle.scim_command.specs.declared.options.OnceOptions.{OnceOptions}
use Rattle.scim_command.specs.declared.run_once.Setting.{Setting}
use Rattle.scim_command.specs.declared.replay_options.ReplayOptions.{ReplayOptions}
use Rattle.scim_command.specs.declared.serve_options.AdminOptions.{AdminOptions}
use Rattle.scim_command.specs.declared.serve_options.ServeOptions.{ServeOptions}
use Rattle.scim_command.specs.declared.serve_options.LimitOptions.{LimitOptions}
use Rattle.scim_command.specs.EventFiles.{IsMomentText, IsNumberText, IsTextOfId}

-- the value of the option with this name; `None` if it isn't given and has no default
abbrev pub value_of : ArgMatches → List ℕ → Option (List ℕ)
value_of matches name = first_value (found_of matches) name

-- the option has this value
abbrev pub Has : ArgMatches → List ℕ → List ℕ → Type 0
Has matches name value = value_of matches name ≡ Some value

-- the option has a value that satisfies `Is`
abbrev pub HasSome : ArgMatches → List ℕ → (List ℕ → Type 0) → Type 0
HasSome matches name Is = (value : List ℕ) × Has matches name value × Is value

-- the option has this number as its value, in decimal digits
abbrev pub HasNumber : ArgMatches → List ℕ → ℕ → Type 0
HasNumber matches name n = HasSome matches name (λ value. IsNumberText value n)

-- if the option has a value, it is a text of what was found; otherwise nothing was found
abbrev pub MayHaveSome : ArgMatches → List ℕ → (List ℕ → ℕ → Type 0) → Option ℕ → Type 0
MayHaveSome matches name IsText found =
    MatchOption (value_of matches name) (found ≡ None) (λ value. (n : ℕ) × (found ≡ Some n) × IsText value n)

-- the option has this number as its value, if it has a value
abbrev pub MayHaveNumber : ArgMatches → List ℕ → Option ℕ → Type 0
MayHaveNumber matches name found = MayHaveSome matches name IsNumberText found

-- whether the flag with this name is given
pub record IsFlag (matches : ArgMatches) (name : List ℕ) (given : Bool) : Type 0 where
  pub none : one_text (found_of matches) name ≡ None → given ≡ false
  pub given_true : one_text (found_of matches) name ≡ Some (codes "true") → given ≡ true
  pub given_false : one_text (found_of matches) name ≡ Some (codes "false") → given ≡ false

-- the option `base` has this value, which is a base URL
pub record IsBaseGiven (matches : ArgMatches) (base : List ℕ) : Type 0 where
  pub value : Has matches (codes "base") base
  pub url : IsBaseUrl base

-- the client, the base URL, the time and the id that `once` uses
pub record IsArrival (matches : ArgMatches) (client base : List ℕ) (moment : ℕ) (first : List ℕ) : Type 0 where
  pub client_is : Has matches (codes "client") client
  pub base_is : IsBaseGiven matches base
  pub moment_is : HasSome matches (codes "at") (λ value. IsMomentText value moment)
  pub first_is : HasSome matches (codes "first") (λ value. IsTextOfId value first)

-- the setting has the client, the base URL, the time and the id that `once` uses
abbrev pub IsSetting : ArgMatches → Setting → Type 0
IsSetting matches s = IsArrival matches s.client.now s.base.now s.at s.first

-- the options of `once`
pub record AreOfOnce (matches : ArgMatches) (o : OnceOptions) : Type 0 where
  pub policy : Has matches (codes "policy") o.policy.now
  pub users : Has matches (codes "users") o.users.now
  pub arrival : IsArrival matches o.client.now o.base.now o.at o.first

-- the options of `replay`
pub record AreOfReplay (matches : ArgMatches) (o : ReplayOptions) : Type 0 where
  pub policy : Has matches (codes "policy") o.policy.now
  pub tokens : Has matches (codes "tokens") o.tokens.now
  pub users : Has matches (codes "users") o.users.now
  pub events : Has matches (codes "events") o.events.now
  pub base : IsBaseGiven matches o.base.now

-- the port and the token file of the administrator; both options have a value, or neither
abbrev pub MayHaveAdmin : ArgMatches → Option AdminOptions → Type 0
MayHaveAdmin matches None = (value_of matches (codes "admin-port") ≡ None) × (value_of matches (codes "admin-tokens") ≡ None)
MayHaveAdmin matches (Some admin) = HasNumber matches (codes "admin-port") admin.port × Has matches (codes "admin-tokens") admin.tokens.now

-- the options of `serve` for the limits of connections
pub record AreOfLimits (matches : ArgMatches) (o : LimitOptions) : Type 0 where
  pub idle : HasNumber matches (codes "idle-seconds") o.idle_seconds
  pub head : HasNumber matches (codes "head-seconds") o.head_seconds
  pub message : HasNumber matches (codes "message-seconds") o.message_seconds
  pub rate : HasNumber matches (codes "reply-rate") o.reply_rate
  pub memory : HasNumber matches (codes "memory") o.memory

-- the options of `serve`
pub record AreOfServe (matches : ArgMatches) (o : ServeOptions) : Type 0 where
  pub policy : Has matches (codes "policy") o.policy.now
  pub tokens : Has matches (codes "tokens") o.tokens.now
  pub database : Has matches (codes "db") o.database.now
  pub port : HasNumber matches (codes "port") o.port
  pub base : IsBaseGiven matches o.base.now
  pub connections : MayHaveNumber matches (codes "connections") o.connections
  pub limits : AreOfLimits matches o.limits
  pub cache : IsFlag matches (codes "no-cache") (not o.has_cache)
  pub admin : MayHaveAdmin matches o.admin
  pub audit_log : value_of matches (codes "audit-log") ≡ option_copied o.audit_log

-- the portion of the rows that `audit` prints: the last rows with `--last`, and otherwise the first, 100 without
-- `--count`; the two options aren't given together
abbrev pub IsPortion : ArgMatches → Portion → Type 0
IsPortion matches (First n) =
    (value_of matches (codes "last") ≡ None) × MatchOption (value_of matches (codes "count")) (n ≡ 100) (λ value. IsNumberText value n)
IsPortion matches (Last n) = (value_of matches (codes "count") ≡ None) × HasNumber matches (codes "last") n

-- the conditions of the rows that `audit` prints
pub record IsAuditFilter (matches : ArgMatches) (f : AuditFilter) : Type 0 where
  pub client : option_copied f.client ≡ value_of matches (codes "client")
  pub since : MayHaveSome matches (codes "since") IsMomentText f.since
  pub refusal : MayHaveSome matches (codes "refusal") NamesRefusal f.refusal

-- the form of the lines: JSON with `--json`
abbrev pub IsFormat : ArgMatches → LineFormat → Type 0
IsFormat matches format = (json : Bool) × IsFlag matches (codes "json") json × (format ≡ (if json then Json else Words))

-- the options of `audit`
pub record AreOfAudit (matches : ArgMatches) (o : AuditOptions) : Type 0 where
  pub database : Has matches (codes "db") o.database.now
  pub from : HasNumber matches (codes "from") o.listing.from
  pub portion : IsPortion matches o.listing.portion
  pub filter : IsAuditFilter matches o.listing.filter
  pub format : IsFormat matches o.listing.format

-- the options of `import`
pub record AreOfImport (matches : ArgMatches) (o : ImportOptions) : Type 0 where
  pub database : Has matches (codes "db") o.database.now
  pub users : Has matches (codes "users") o.users.now
  pub foreign : IsFlag matches (codes "foreign") o.is_foreign
  pub merge : IsFlag matches (codes "merge") o.merges

-- the options of `archive`
pub record AreOfArchive (matches : ArgMatches) (o : ArchiveOptions) : Type 0 where
  pub database : Has matches (codes "db") o.database.now
  pub archive : Has matches (codes "to") o.archive.now

-- the path that `explain` is given: one of the kind with this text, or none
abbrev pub IsPathGiven : ArgMatches → Kind → Option Meant → Type 0
IsPathGiven matches kind path =
    MatchOption (value_of matches (codes "path")) (path ≡ None) (λ text. IsSome path × (path ≡ path_named kind text))

-- the options of `explain`
pub record AreOfExplain (matches : ArgMatches) (o : ExplainOptions) : Type 0 where
  pub policy : Has matches (codes "policy") o.policy.now
  pub database : Has matches (codes "db") o.database.now
  pub client : Has matches (codes "client") o.client.now
  pub op : HasSome matches (codes "op") (λ value. operation_named value ≡ Some o.op)
  pub kind : HasSome matches (codes "kind") (λ value. kind_named value ≡ Some o.kind)
  pub id : HasSome matches (codes "id") (λ value. IsTextOfId value o.id)
  pub path : IsPathGiven matches o.kind o.path

-- the base URL of the resources, for commands that have no option for it
abbrev pub default_base : List ℕ
default_base = codes "http://127.0.0.1:8080"
