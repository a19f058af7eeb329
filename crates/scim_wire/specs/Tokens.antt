-- The bearer token of a request (RFC 6750 section 2.1).
use Rattle.std.specs.Prelude.{ℕ, List, [], ◌∷◌, take, drop, Option, Some, None, if◌then◌else◌, nat_lt, length, codes}
use Rattle.scim_wire.specs.Headers.{same_name, values_named}

-- the part of a header's value after the scheme `Bearer`, in any case, and one space; `None` if the value
-- doesn't begin with this scheme and a space
abbrev pub bearer : List ℕ → Option (List ℕ)
bearer value = if nat_lt (length value) 7 then None else (if same_name (take 7 value) (codes "bearer ") then Some (drop 7 value) else None)

-- the bearer token if there is exactly one value and its scheme is `Bearer`; `None` otherwise
abbrev pub lone_bearer : List (List ℕ) → Option (List ℕ)
lone_bearer [] = None
lone_bearer (value ∷ []) = bearer value
lone_bearer (value ∷ other ∷ others) = None

-- the bearer token in the header `Authorization`; `None` if there isn't exactly one such header, or if its
-- scheme isn't `Bearer`
abbrev pub token_of : List (List ℕ × List ℕ) → Option (List ℕ)
token_of fields = lone_bearer (values_named (codes "authorization") fields)
