-- The headers `Connection` and `Expect` of a request.
use Rattle.std.specs.Prelude.{ℕ, Bool, ◌&&◌, List, ◌==◌, codes}
use Rattle.std.specs.List.{list_any, slice_split}
use Rattle.httparse.specs.Grammar.{trim_ows}
use Rattle.scim_wire.specs.Headers.{same_name}

-- the byte `,`
abbrev pub comma : ℕ
comma = 44

-- whether the comma-separated value contains the option, ignoring ASCII case (RFC 9110 section 5.6.1)
abbrev pub lists : List ℕ → List ℕ → Bool
lists option value = list_any (λ part. same_name (trim_ows part) option) (slice_split (λ b. b == comma) value)

-- whether a header with this name lists the option
abbrev pub says : List ℕ → List ℕ → List (List ℕ × List ℕ) → Bool
says name option fields = list_any (λ h. same_name h.0 name && lists option h.1) fields

-- whether a header with this name has this value, ignoring ASCII case
abbrev pub has : List ℕ → List ℕ → List (List ℕ × List ℕ) → Bool
has name value fields = list_any (λ h. same_name h.0 name && same_name h.1 value) fields

-- whether a header `Connection` lists the option `close` (RFC 9112 section 9.6)
abbrev pub says_close : List (List ℕ × List ℕ) → Bool
says_close fields = says (codes "connection") (codes "close") fields

-- whether a header `Expect` is `100-continue` (RFC 9110 section 10.1.1)
abbrev pub expects_continue : List (List ℕ × List ℕ) → Bool
expects_continue fields = has (codes "expect") (codes "100-continue") fields
