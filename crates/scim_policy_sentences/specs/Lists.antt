-- Lists of words in a sentence.
use Rattle.std.specs.Prelude.{ℕ, ◌==◌, List, [], ◌∷◌, ◌++◌, length, codes, if◌then◌else◌}

-- the words, each after its separator: `last` before the last word, such as " and ", and `mark` before each
-- other word, such as ", "
abbrev pub further : List ℕ → List ℕ → List (List ℕ) → List ℕ
further mark last [] = []
further mark last (w ∷ ws) = (if length ws == 0 then last else mark) ++ w ++ further mark last ws

-- words with separators: `last` before the last word, and `mark` between the other words; `nothing` if there
-- are no words
abbrev pub joined : List ℕ → List ℕ → List (List ℕ) → List ℕ
joined mark last [] = codes "nothing"
joined mark last (w ∷ ws) = w ++ further mark last ws

-- words joined as in a sentence: `a`, `a and b`, `a, b and c`; `nothing` if there are no words
abbrev pub listed : List (List ℕ) → List ℕ
listed words = joined (codes ", ") (codes " and ") words
