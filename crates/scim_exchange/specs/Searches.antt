-- Searches, and the queries that run them (RFC 7644 sections 3.4.2 and 3.4.3).
use Rattle.std.specs.Prelude.{◌≡◌, ◌==◌, ℕ, Bool, List, Option, None, Some, option_map, Result, Ok, ok_or, if◌then◌else◌}
use Rattle.std.specs.List.{list_all}
use Rattle.scim_schema.specs.declared.Kind.{Kind}
use Rattle.scim_audit.specs.declared.refusals.Refusal.{Refusal}
use Rattle.scim_audit.specs.declared.refusals.Refusal.TheVariants.{Filter}
use Rattle.scim_filter_grammar.specs.Tree.{Tree, tree_of}
use Rattle.scim_filter_grammar.specs.Spelled.{filter_in}
use Rattle.scim_query.specs.declared.queries.Query.{Query}
use Rattle.scim_exchange.specs.declared.paging.Arrangement.{Arrangement}
use Rattle.scim_exchange.specs.Refused.{◌>>=◌}
use Rattle.scim_exchange.specs.AttributeLists.{Lists, one_of, Wants}

-- the settings of a search: its attribute lists, sorting and paging
pub record Settings : Type 0 where
  pub lists : Lists
  pub arrangement : Arrangement

-- a search before its filter is parsed: the filter's text, and the settings or the refusal of an invalid
-- value
pub record Search : Type 0 where
  pub filter : Option (List ℕ)
  pub settings : Result Settings Refusal

-- whether a text is empty or consists of spaces
abbrev pub is_blank : List ℕ → Bool
is_blank text = list_all (λ b. b == 32) text

-- the filter in a text; `None` if the text is blank or isn't given, and the refusal `Filter` if the text
-- isn't a valid filter (RFC 7644 section 3.4.2.2)
unfoldable pub filter_of : Kind → Option (List ℕ) → Result (Option Tree) Refusal
filter_of kind None = Ok None
filter_of kind (Some text) = if is_blank text then Ok None else ok_or (option_map Some (filter_in kind text)) Filter

-- a search after parsing: the filter and the settings
pub record Sought : Type 0 where
  pub filter : Option Tree
  pub settings : Settings

-- the search with this filter and these settings, or the refusal `MessageValue` if both attribute lists are
-- given
abbrev pub sought_with : Option Tree → Settings → Result Sought Refusal
sought_with filter settings = one_of settings.lists >>= λ lists. Ok (record { filter = filter; settings = settings })

-- the search after parsing, or the refusal of an invalid value; an invalid filter is refused first
abbrev pub sought : Kind → Search → Result Sought Refusal
sought kind search = filter_of kind search.filter >>= λ filter. search.settings >>= λ settings. sought_with filter settings

-- the search after parsing; the refusal if the search couldn't be read or has an invalid value
abbrev pub sought_of : Kind → Result Search Refusal → Result Sought Refusal
sought_of kind search = search >>= sought kind

-- the query has the filter, sorting, paging and attributes of the search
pub record IsQuery (kind : Kind) (s : Sought) (query : Query) : Type 0 where
  pub filter : option_map tree_of query.filter ≡ s.filter
  pub sort_by : query.sort_by ≡ s.settings.arrangement.sort_by
  pub descending : query.descending ≡ s.settings.arrangement.descending
  pub start : query.start ≡ s.settings.arrangement.start
  pub count : query.count ≡ s.settings.arrangement.count
  pub wanted : Wants kind s.settings.lists query.wanted
