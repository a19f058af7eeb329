-- Ids and their texts (RFC 9562 section 4).
use Rattle.std.specs.Prelude.{◌≡◌, ◌≤◌, ◌<◌, ◌⊎◌, ℕ, List, length, slice_index, All, EachIndex, MatchBool}
use Rattle.std.specs.Cmp.Lexicographic.{slice_cmp}
use Rattle.std.specs.Ordering.{nat_cmp}
use Rattle.std.specs.declared.cmp.Ordering.{Ordering}
use Rattle.uuid.specs.Text.{hyphenated_text, hyphen, is_hyphen_place, lower}

-- an id is a list of sixteen bytes
pub record IsId (id : List ℕ) : Type 0 where
  pub long : length id ≡ 16
  pub bytes : All (λ b. b < 256) id

-- the text of an id: 32 hexadecimal digits in lower case, in groups of 8, 4, 4, 4 and 12 with hyphens between
-- them
unfoldable pub id_text : List ℕ → List ℕ
id_text id = hyphenated_text lower id

-- a decimal digit, or one of `a` to `f`
abbrev pub IsLowerHexDigit : ℕ → Type 0
IsLowerHexDigit c = ((48 ≤ c) × (c ≤ 57)) ⊎ ((97 ≤ c) × (c ≤ 102))

-- a valid character at an index of an id's text: a hyphen at 8, 13, 18 and 23, a hexadecimal digit elsewhere
abbrev pub IsIdCharacter : ℕ → ℕ → Type 0
IsIdCharacter place c = MatchBool (is_hyphen_place place) (c ≡ hyphen) (IsLowerHexDigit c)

-- a text has the form of an id's text
pub record IsIdText (text : List ℕ) : Type 0 where
  pub long : length text ≡ 36
  pub characters : EachIndex text (λ k. IsIdCharacter k (slice_index text k))

-- the text of each id has the form of an id's text
abbrev pub IdTextsHaveTheForm : Type 0
IdTextsHaveTheForm = (id : List ℕ) → IsId id → IsIdText (id_text id)

-- different ids have different texts
abbrev pub IdTextsAreApart : Type 0
IdTextsAreApart = (a b : List ℕ) → IsId a → IsId b → id_text a ≡ id_text b → a ≡ b

-- the comparison of ids agrees with the byte order of their texts
abbrev pub OrdersIdsAsTexts : (List ℕ → List ℕ → Ordering) → Type 0
OrdersIdsAsTexts compare = (a b : List ℕ) → IsId a → IsId b → compare a b ≡ slice_cmp nat_cmp (id_text a) (id_text b)
