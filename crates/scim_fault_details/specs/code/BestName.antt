-- The nearest of the names that were compared with a word.
use Rattle.std.specs.Prelude.{◌≡◌, ◌≤◌, ◌+◌, ℕ, List, All, Contains, Option, None, Some}
use Rattle.std.specs.Borrow.{Bor}
use Rattle.scim_text.specs.Names.{folded}
use Rattle.scim_fault_details.specs.declared.nearest.Best.{Best}
use Rattle.scim_fault_details.specs.Nearest.{most_edits, distance}

-- the name, if there is one, is one of these, is near the word and has as many edits as the bound; without one, the
-- bound is the least number of edits that isn't near
abbrev pub IsNamed : List ℕ → List (List ℕ) → ℕ → Option (Bor (List ℕ)) → Type 0
IsNamed word names bound None = bound ≡ most_edits word + 1
IsNamed word names bound (Some name) = Contains names name.now × (distance word (folded name.now) ≡ bound) × (bound ≤ most_edits word)

-- it is the nearest of these names to the folded word, none of which has fewer edits than the bound
pub record IsBest (word : List ℕ) (names : List (List ℕ)) (best : Best) : Type 0 where
  pub named : IsNamed word names best.bound best.name
  pub limit : best.bound ≤ most_edits word + 1
  pub least : All (λ name. best.bound ≤ distance word (folded name)) names
