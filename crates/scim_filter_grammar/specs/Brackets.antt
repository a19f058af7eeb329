-- How many brackets are open at a place of a filter's text.
use Rattle.std.specs.Prelude.{◌≡◌, ◌<◌, ℕ, Bool, suc, pred, ◌||◌, ◌==◌, List, [], ◌∷◌, ◌++◌, if◌then◌else◌}

-- whether the byte opens a bracket: "(" or "["
abbrev pub is_opening : ℕ → Bool
is_opening b = b == 40 || b == 91

-- whether the byte closes a bracket: ")" or "]"
abbrev pub is_closing : ℕ → Bool
is_closing b = b == 41 || b == 93

-- the number of open brackets after a text, if n are open before it; brackets in JSON strings don't count
abbrev mutual
  pub open_behind : ℕ → List ℕ → ℕ
  open_behind n [] = n
  open_behind n (b ∷ bs) =
      if b == 34 then open_string n bs else
      if is_opening b then open_behind (suc n) bs else
      if is_closing b then open_behind (pred n) bs else open_behind n bs

  -- the number of open brackets after a text that begins within a string, if n are open before it
  pub open_string : ℕ → List ℕ → ℕ
  open_string n [] = n
  open_string n (b ∷ bs) = if b == 34 then open_behind n bs else if b == 92 then open_escaped n bs else open_string n bs

  -- the number of open brackets after a text that begins after a "\" in a string, which escapes the next
  -- byte
  pub open_escaped : ℕ → List ℕ → ℕ
  open_escaped n [] = n
  open_escaped n (b ∷ bs) = open_string n bs

-- more than `most` brackets are open at some place of the text
pub record IsDeeper (most : ℕ) (text : List ℕ) : Type 0 where
  pub before : List ℕ
  pub after : List ℕ
  pub whole : text ≡ before ++ after
  pub open_there : most < open_behind 0 before
