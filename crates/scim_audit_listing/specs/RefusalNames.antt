-- The texts that name refusals.
use Rattle.std.specs.Prelude.{◌≡◌, ◌≤◌, ◌==◌, ◌||◌, ℕ, List, [], ◌∷◌, Option, None, Some, if◌then◌else◌}
use Rattle.std.specs.Str.Parse.{IsNumeral, digits_value}

-- the text without an `F` or `f` at its start
abbrev pub without_mark : List ℕ → List ℕ
without_mark [] = []
without_mark (b ∷ rest) = if b == 70 || b == 102 then rest else b ∷ rest

-- the text is the number of a refusal in decimal digits, after `F` or `f` or alone
pub record NamesRefusal (text : List ℕ) (n : ℕ) : Type 0 where
  pub digits : IsNumeral 10 (without_mark text)
  pub value : digits_value 10 (without_mark text) ≡ n
  pub first : 1 ≤ n
  pub last : n ≤ 21

-- the number that was found is named by the text; if none was found, the text names none
abbrev pub FindsRefusal : List ℕ → Option ℕ → Type 0
FindsRefusal text None = (n : ℕ) → NamesRefusal text n → ⊥
FindsRefusal text (Some n) = NamesRefusal text n
