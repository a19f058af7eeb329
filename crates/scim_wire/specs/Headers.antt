-- The names and values of headers (RFC 9110 section 5).
use Rattle.std.specs.Prelude.{ℕ, Bool, List, [], ◌∷◌, map, if◌then◌else◌, bytes_eq}
use Rattle.std.specs.Char.{to_ascii_lowercase}
use Rattle.std.specs.Borrow.{Bor}
use Rattle.scim_wire.specs.declared.headers.Header.{Header}

-- the name and the value of a header
abbrev pub header_parts : Header → List ℕ × List ℕ
header_parts h = (h.name.now, h.value.now)

-- whether two header names are equal, ignoring ASCII case
unfoldable pub same_name : List ℕ → List ℕ → Bool
same_name a b = bytes_eq (map to_ascii_lowercase a) (map to_ascii_lowercase b)

-- the values of all headers with this name, in order
abbrev pub values_named : List ℕ → List (List ℕ × List ℕ) → List (List ℕ)
values_named name [] = []
values_named name (h ∷ hs) = if same_name h.0 name then h.1 ∷ values_named name hs else values_named name hs

-- the contents of the slices
abbrev pub texts : List (Bor (List ℕ)) → List (List ℕ)
texts slices = map (λ s. s.now) slices
