-- The name that a misspelled word may stand for.
use Rattle.std.specs.Prelude.{◌≡◌, ◌≤◌, ◌<◌, ℕ, ◌/◌, Bool, ◌&&◌, nat_le, nat_eq, min, max, List, length, All, Contains, Option, None, Some, if◌then◌else◌}
use Rattle.std.specs.List.{starts_with}
use Rattle.std.specs.Str.{chars}
use Rattle.strsim.specs.Edits.{levenshtein_row}
use Rattle.scim_text.specs.Names.{folded}
use Rattle.scim_fault_details.specs.declared.nearest.TheConstants.{LONGEST_WORD, SHORTEST_BEGINNING}

-- the most edits between a word and a name near it: a third of the word's length, but 1 or 2
abbrev pub most_edits : List ℕ → ℕ
most_edits word = max 1 (min (length word / 3) 2)

-- the number of edits that lead from one text to the other: characters that are inserted, removed or replaced
abbrev pub edits : List ℕ → List ℕ → ℕ
edits word name = levenshtein_row nat_eq (chars word) (chars name) (length (chars name))

-- whether the word is the beginning of the name, and long enough to stand for it
abbrev pub is_beginning : List ℕ → List ℕ → Bool
is_beginning word name = nat_le SHORTEST_BEGINNING (length word) && starts_with nat_eq name word

-- how far the name is from the word: the edits, but at most 1 if the word is the beginning of the name
abbrev pub distance : List ℕ → List ℕ → ℕ
distance word name = if is_beginning word name then min (edits word name) 1 else edits word name

-- the name is near the word, ignoring case; the word is folded
abbrev pub IsNear : List ℕ → List ℕ → Type 0
IsNear word name = distance word (folded name) ≤ most_edits word

-- the name is one of these, is near the folded word, and no other of these is nearer
pub record IsNearest (word : List ℕ) (names : List (List ℕ)) (name : List ℕ) : Type 0 where
  pub listed : Contains names name
  pub near : IsNear word name
  pub least : All (λ other. distance word (folded name) ≤ distance word (folded other)) names

-- the nearest of the names to a folded word; None if none of them is near
abbrev pub IsNearestFolded : List ℕ → List (List ℕ) → Option (List ℕ) → Type 0
IsNearestFolded word names None = All (λ name. ¬ IsNear word name) names
IsNearestFolded word names (Some name) = IsNearest word names name

-- the nearest of the names to a word, ignoring case; None if none of them is near, and if the word is too long
pub record IsNearestOf (word : List ℕ) (names : List (List ℕ)) (found : Option (List ℕ)) : Type 0 where
  pub nearest : length word ≤ LONGEST_WORD → IsNearestFolded (folded word) names found
  pub too_long : LONGEST_WORD < length word → found ≡ None
