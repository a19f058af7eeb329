-- Spaces, words and keywords in byte strings.
use Rattle.std.specs.Prelude.{ℕ, Bool, true, false, not, ◌||◌, ◌==◌, List, [], ◌∷◌, map, Option, Some, None, if◌then◌else◌}
use Rattle.std.specs.Char.{to_ascii_lowercase}
use Rattle.std.specs.Str.{bytes_eq}

-- whether the byte is a space (32); no other byte counts as one
abbrev pub is_space : ℕ → Bool
is_space b = b == 32

-- whether the byte may be part of a word: any byte except a space, a quote or a bracket
abbrev pub is_word_byte : ℕ → Bool
is_word_byte b = not (b == 32 || b == 34 || b == 40 || b == 41 || b == 91 || b == 93)

-- whether the byte isn't ":"
abbrev pub is_no_colon : ℕ → Bool
is_no_colon b = not (b == 58)

-- the longest prefix whose bytes all pass the test
abbrev pub front : (ℕ → Bool) → List ℕ → List ℕ
front p [] = []
front p (b ∷ bs) = if p b then b ∷ front p bs else []

-- the bytes after the longest prefix whose bytes all pass the test
abbrev pub behind : (ℕ → Bool) → List ℕ → List ℕ
behind p [] = []
behind p (b ∷ bs) = if p b then behind p bs else b ∷ bs

-- whether the text is the keyword, in any ASCII case
abbrev pub is_word : List ℕ → List ℕ → Bool
is_word keyword text = bytes_eq (map to_ascii_lowercase text) (map to_ascii_lowercase keyword)

-- whether there are no bytes
abbrev pub is_empty : List ℕ → Bool
is_empty [] = true
is_empty (b ∷ bs) = false

-- the only word of a text, with only spaces around it; None if the text has anything else
abbrev pub lone_word : List ℕ → Option (List ℕ)
lone_word bytes = if is_empty (behind is_space (behind is_word_byte (behind is_space bytes))) then Some (front is_word_byte (behind is_space bytes)) else None

-- the bytes after the quote that closes a JSON string; a "\" escapes the next byte
abbrev mutual
  pub past_quote : List ℕ → Option (List ℕ)
  past_quote [] = None
  past_quote (b ∷ bs) = if b == 34 then Some bs else if b == 92 then past_escaped bs else past_quote bs

  pub past_escaped : List ℕ → Option (List ℕ)
  past_escaped [] = None
  past_escaped (b ∷ bs) = past_quote bs
