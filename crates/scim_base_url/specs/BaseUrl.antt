-- Base URLs, below which a server's resources have their locations.
use Rattle.std.specs.Prelude.{◌≡◌, ℕ, Bool, true, false, ◌&&◌, ◌||◌, not, ◌==◌, nat_eq, nat_lt, List, length, codes, Option, None, Some, is_some, option_map}
use Rattle.std.specs.List.{ends_with, list_all}
use Rattle.http_uri.specs.declared.uri.Uri.{Uri}
use Rattle.http_uri.specs.Grammar.{authority_host}
use Rattle.http_uri.specs.Uri.{Spells, uri_authority, uri_query, uri_scheme}
use Rattle.scim_schema.specs.Lookup.{is_same_text}

-- whether there is a scheme, and it is `http` or `https`
abbrev pub is_http_scheme : Option (List ℕ) → Bool
is_http_scheme None = false
is_http_scheme (Some scheme) = is_same_text scheme (codes "http") || is_same_text scheme (codes "https")

-- whether the URL is one of HTTP (RFC 9110 section 4.2)
abbrev pub is_of_http : Uri → Bool
is_of_http url = is_http_scheme (uri_scheme url)

-- whether there is a text, and it isn't empty
abbrev pub is_filled : Option (List ℕ) → Bool
is_filled None = false
is_filled (Some text) = not (length text == 0)

-- whether the URL has a host that isn't empty (RFC 3986 section 3.2.2)
abbrev pub has_host : Uri → Bool
has_host url = is_filled (option_map authority_host (uri_authority url))

-- whether the URL is one of HTTP with a host and without a query
abbrev pub is_base : Uri → Bool
is_base url = is_of_http url && (has_host url && not (is_some (uri_query url)))

-- whether all characters are ASCII (RFC 3986 section 2), and none is the `#` before a fragment
abbrev pub has_only_location_bytes : List ℕ → Bool
has_only_location_bytes text = list_all (λ b. nat_lt b 128 && not (b == 35)) text

-- whether a path, which begins with a slash, may be appended to the text
abbrev pub is_location_prefix : List ℕ → Bool
is_location_prefix text = has_only_location_bytes text && not (ends_with nat_eq text (codes "/"))

-- the text is a base URL
abbrev pub IsBaseUrl : List ℕ → Type 0
IsBaseUrl text = (url : Uri) × Spells text url × ((is_base url && is_location_prefix text) ≡ true)
