-- How the readers cut bytes at gaps, keywords, dots and colons.
use Rattle.std.specs.Prelude.{ℕ, Bool, not, ◌==◌, List, [], ◌∷◌, Option, Some, None, option_and_then, if◌then◌else◌, length, take, ◌-◌, nat_lt}
use Rattle.scim_filter_grammar.specs.Bytes.{is_space, is_word_byte, front, behind, is_word}

-- whether the byte isn't "."
abbrev pub is_no_dot : ℕ → Bool
is_no_dot b = not (b == 46)

-- the bytes after one or more spaces
abbrev pub past_gap : List ℕ → Option (List ℕ)
past_gap [] = None
past_gap (b ∷ bs) = if b == 32 then Some (behind is_space bs) else None

-- the bytes after a keyword with spaces on both sides
abbrev pub past_join : List ℕ → List ℕ → Option (List ℕ)
past_join keyword bytes = option_and_then (λ rest. if is_word keyword (front is_word_byte rest) then past_gap (behind is_word_byte rest) else None) (past_gap bytes)

-- the bytes after the last colon; `names` are the bytes after the last colon read so far
abbrev pub names_from : List ℕ → List ℕ → List ℕ
names_from names [] = names
names_from names (b ∷ bs) = if b == 58 then names_from bs bs else names_from names bs

-- the bytes after the last colon of a word, or the whole word if it has none
abbrev pub names_in : List ℕ → List ℕ
names_in word = names_from word word

-- the bytes before the last colon, if there is one
abbrev pub urn_in : List ℕ → Option (List ℕ)
urn_in word = if nat_lt (length (names_in word)) (length word) then Some (take (length word - length (names_in word) - 1) word) else None
