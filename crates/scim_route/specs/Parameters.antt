-- The parameters of query strings (RFC 7644 section 3.4.2).
use Rattle.std.specs.Prelude.{ℕ, List, [], codes, map, Option, option_map, unwrap_or}
use Rattle.std.specs.List.{find}
use Rattle.std.specs.Str.Lossy.{utf8_lossy}
use Rattle.form_urlencoded.specs.Form.{raw_pairs, decode}
use Rattle.scim_text.specs.Names.{is_same_name}
use Rattle.scim_route.specs.declared.query_parameters.Parameters.{Parameters}

-- the decoded text of a form-encoded name or value; bytes that aren't UTF-8 become U+FFFD
abbrev pub decoded_text : List ℕ → List ℕ
decoded_text bytes = utf8_lossy (decode bytes)

-- a form-encoded name and value, decoded
abbrev pub decoded_pair : List ℕ × List ℕ → List ℕ × List ℕ
decoded_pair pair = (decoded_text pair.0, decoded_text pair.1)

-- the decoded names and values of a query string, in order; empty if there is no query string
abbrev pub pairs_of : Option (List ℕ) → List (List ℕ × List ℕ)
pairs_of query = map decoded_pair (raw_pairs (unwrap_or query []))

-- the value of the first pair that has this name in any ASCII case; `None` if there is no such pair
abbrev pub first_named : List ℕ → List (List ℕ × List ℕ) → Option (List ℕ)
first_named name pairs = option_map (λ pair. pair.1) (find (λ pair. is_same_name pair.0 name) pairs)

-- the parameters, each with its first value in these pairs of names and values (RFC 7644 sections 3.4.2 and
-- 3.9)
abbrev pub parameters_in : List (List ℕ × List ℕ) → Parameters
parameters_in pairs = record {
  attributes = first_named (codes "attributes") pairs;
  excluded_attributes = first_named (codes "excludedAttributes") pairs;
  filter = first_named (codes "filter") pairs;
  sort_by = first_named (codes "sortBy") pairs;
  sort_order = first_named (codes "sortOrder") pairs;
  start_index = first_named (codes "startIndex") pairs;
  count = first_named (codes "count") pairs;
}

-- the parameters of a query string
abbrev pub parameters_of : Option (List ℕ) → Parameters
parameters_of query = parameters_in (pairs_of query)
