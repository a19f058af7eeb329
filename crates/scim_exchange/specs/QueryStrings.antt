-- Searches and attribute lists in query strings (RFC 7644 sections 3.4.2 and 3.9).
use Rattle.std.specs.Prelude.{ℕ, ℤ, not, ◌==◌, List, [], filter, Option, None, Some, option_map, Result, Ok, ok_or, if◌then◌else◌}
use Rattle.std.specs.List.{slice_split}
use Rattle.std.specs.Str.Parse.{signed_digits_value}
use Rattle.scim_schema.specs.declared.Kind.{Kind}
use Rattle.scim_audit.specs.declared.refusals.Refusal.{Refusal}
use Rattle.scim_audit.specs.declared.refusals.Refusal.TheVariants.{MessageValue}
use Rattle.scim_filter_grammar.specs.Literals.{is_integer}
use Rattle.scim_route.specs.declared.query_parameters.Parameters.{Parameters}
use Rattle.scim_exchange.specs.declared.paging.Arrangement.{Arrangement}
use Rattle.scim_exchange.specs.Refused.{◌>>=◌}
use Rattle.scim_exchange.specs.AttributeLists.{Lists}
use Rattle.scim_exchange.specs.Arrangements.{arranged}
use Rattle.scim_exchange.specs.Searches.{is_blank, Settings, Search}

-- the parts of a comma-separated list that aren't blank (RFC 7644 section 3.9)
unfoldable pub parts : List ℕ → List (List ℕ)
parts text = filter (λ part. not (is_blank part)) (slice_split (λ b. b == 44) text)

-- the parts of a comma-separated list that aren't blank; empty if the list isn't given
abbrev pub parts_of : Option (List ℕ) → List (List ℕ)
parts_of None = []
parts_of (Some text) = parts text

-- the attribute lists of the parameters
abbrev pub lists_of : Parameters → Lists
lists_of parameters = record { attributes = parts_of parameters.attributes; excluded = parts_of parameters.excluded_attributes }

-- the signed 64-bit number in a text, written as decimal digits with an optional `-` before them; `None` if
-- the text isn't one
unfoldable pub integer_in : List ℕ → Option ℤ
integer_in text = if is_integer text then Some (signed_digits_value 10 text) else None

-- the number of a parameter, if it is given; the refusal `MessageValue` if it isn't a signed 64-bit number
unfoldable pub integer_of : Option (List ℕ) → Result (Option ℤ) Refusal
integer_of None = Ok None
integer_of (Some text) = ok_or (option_map Some (integer_in text)) MessageValue

-- the sorting and paging that the parameters ask for, or the refusal `MessageValue` if a value isn't allowed
unfoldable pub arrangement_of : Kind → Parameters → Result Arrangement Refusal
arrangement_of kind parameters = do
  start_index ← integer_of parameters.start_index
  count ← integer_of parameters.count
  arranged kind parameters.sort_by parameters.sort_order start_index count

-- the attribute lists, sorting and paging that the parameters ask for, or the refusal `MessageValue` if a
-- value isn't allowed
unfoldable pub settings_of : Kind → Parameters → Result Settings Refusal
settings_of kind parameters = do
  arrangement ← arrangement_of kind parameters
  Ok (record { lists = lists_of parameters; arrangement = arrangement })

-- the search that the parameters ask for
abbrev pub search_of : Kind → Parameters → Search
search_of kind parameters = record { filter = parameters.filter; settings = settings_of kind parameters }
