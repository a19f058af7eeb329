-- Searches in request bodies (RFC 7644 section 3.4.3).
use Rattle.std.specs.Prelude.{ℕ, ℤ, Bool, List, [], ◌∷◌, codes, Option, None, Some, option_map, option_and_then, Result, Ok, Err, ok_or, if◌then◌else◌}
use Rattle.std.specs.List.{list_any}
use Rattle.std.specs.Str.{is_utf8}
use Rattle.serde_json.specs.Data.{Data, Members}
use Rattle.serde_json.specs.Find.{as_str, as_array, as_object, as_number, as_i64}
use Rattle.serde_json.specs.Read.{read}
use Rattle.scim_schema.specs.declared.Kind.{Kind}
use Rattle.scim_audit.specs.declared.refusals.Refusal.{Refusal}
use Rattle.scim_audit.specs.declared.refusals.Refusal.TheVariants.{Syntax, MessageValue}
use Rattle.scim_body.specs.BodyNames.{is_twice, listed}
use Rattle.scim_body.specs.BodyValues.{collected, if_given, given_named, is_absent}
use Rattle.scim_exchange.specs.declared.paging.Arrangement.{Arrangement}
use Rattle.scim_exchange.specs.Refused.{◌>>=◌}
use Rattle.scim_exchange.specs.AttributeLists.{Lists}
use Rattle.scim_exchange.specs.Arrangements.{arranged}
use Rattle.scim_exchange.specs.Searches.{Settings, Search}

-- the keys of a search
abbrev pub keys : List (List ℕ)
keys = codes "attributes" ∷ codes "excludedAttributes" ∷ codes "filter" ∷ codes "sortBy" ∷ codes "sortOrder" ∷ codes "startIndex" ∷ codes "count" ∷ []

-- whether a key of a search occurs twice, in any spelling
unfoldable pub keys_clash : Members → Bool
keys_clash ms = list_any (λ key. is_twice key ms) keys

-- the text under a key, if given; the refusal `MessageValue` if the value isn't a text
unfoldable pub text_given : Option Data → Result (Option (List ℕ)) Refusal
text_given None = Ok None
text_given (Some d) = ok_or (option_map Some (as_str d)) MessageValue

-- the signed 64-bit integer under a key, if given; the refusal `MessageValue` if the value isn't one
unfoldable pub integer_given : Option Data → Result (Option ℤ) Refusal
integer_given None = Ok None
integer_given (Some d) = ok_or (option_map Some (option_and_then as_i64 (as_number d))) MessageValue

-- reads an item of a list of strings: a list with its text if the item is a string, the empty list if it is
-- null or `[]`, and `None` if it is any other JSON value
abbrev pub text_item : Data → Option (List (List ℕ))
text_item d = if is_absent d then Some [] else option_map (λ text. text ∷ []) (as_str d)

-- the texts under a key, whose value is a list of texts or a single text; the refusal `MessageValue` if it is
-- neither
unfoldable pub texts_given : Option Data → Result (List (List ℕ)) Refusal
texts_given given = ok_or (if_given (λ d. collected text_item (listed (as_array d) d)) given) MessageValue

-- the sorting and paging of the search, or the refusal `MessageValue` if a value isn't allowed
unfoldable pub arrangement_in : Kind → Members → Result Arrangement Refusal
arrangement_in kind ms = do
  sort_by ← text_given (given_named (codes "sortBy") ms)
  sort_order ← text_given (given_named (codes "sortOrder") ms)
  start_index ← integer_given (given_named (codes "startIndex") ms)
  count ← integer_given (given_named (codes "count") ms)
  arranged kind sort_by sort_order start_index count

-- the sorting and paging of the search; the refusal `MessageValue` if the filter is given but isn't a text,
-- or if another value isn't allowed
unfoldable pub words_in : Kind → Members → Result Arrangement Refusal
words_in kind ms = text_given (given_named (codes "filter") ms) >>= λ filter. arrangement_in kind ms

-- the attribute lists of the search
unfoldable pub lists_in : Members → Result Lists Refusal
lists_in ms = do
  attributes ← texts_given (given_named (codes "attributes") ms)
  excluded ← texts_given (given_named (codes "excludedAttributes") ms)
  Ok (record { attributes = attributes; excluded = excluded })

-- the attribute lists, sorting and paging of the search, or the refusal `MessageValue` if a value isn't
-- allowed
unfoldable pub settings_in : Kind → Members → Result Settings Refusal
settings_in kind ms = do
  arrangement ← words_in kind ms
  lists ← lists_in ms
  Ok (record { lists = lists; arrangement = arrangement })

-- the search that an object's members ask for
abbrev pub search_in : Kind → Members → Search
search_in kind ms = record { filter = option_and_then as_str (given_named (codes "filter") ms); settings = settings_in kind ms }

-- the search of a JSON value, which must be an object with each key of a search at most once
abbrev pub search_of_members : Kind → Option Members → Result Search Refusal
search_of_members kind None = Err Syntax
search_of_members kind (Some ms) = if keys_clash ms then Err Syntax else Ok (search_in kind ms)

-- the JSON value of a body, which must be UTF-8
unfoldable pub value_in : List ℕ → Result Data Refusal
value_in body = if is_utf8 body then ok_or (read body) Syntax else Err Syntax

-- the search that a body asks for
unfoldable pub search_of_body : Kind → List ℕ → Result Search Refusal
search_of_body kind body = value_in body >>= λ d. search_of_members kind (as_object d)
