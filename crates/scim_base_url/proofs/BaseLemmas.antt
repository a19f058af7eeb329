-- Each URL that a text spells has the parts of a base URL, or none has.
use Rattle.std.specs.Prelude.{◌≡◌, ℕ, ◌&&◌, not, List, Option, is_some, option_map}
use Rattle.std.proofs.Common.{ap, ◌∙◌}
use Rattle.http_uri.specs.declared.uri.Uri.{Uri}
use Rattle.http_uri.specs.Grammar.{authority_host, query_of}
use Rattle.http_uri.specs.Uri.{Spells, uri_authority, uri_data, uri_scheme}
use Rattle.http_uri.proofs.Theorems.{Spells_unique}
use Rattle.scim_base_url.specs.BaseUrl.{is_base, is_filled, is_http_scheme}

pub is_base-unique : (text : List ℕ) (u v : Uri) → Spells text u → Spells text v → is_base u ≡ is_base v
is_base-unique text u v h g =
    let same = Spells_unique text u v h g in
    let asks_host = λ (a : Option (List ℕ)). is_filled (option_map authority_host a) in
    let asks_query = λ (k : List ℕ). not (is_some (query_of k)) in
    ap (λ s. is_http_scheme s && (asks_host (uri_authority u) && asks_query (uri_data u))) same.0
    ∙ ap (λ a. is_http_scheme (uri_scheme v) && (asks_host a && asks_query (uri_data u))) same.1
    ∙ ap (λ k. is_http_scheme (uri_scheme v) && (asks_host (uri_authority v) && asks_query k)) same.2
