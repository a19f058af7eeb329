-- Stable sorting of lists by a comparison.
use Rattle.std.specs.Prelude.{List, [], ◌∷◌, if◌then◌else◌}
use Rattle.std.specs.declared.cmp.Ordering.{Ordering}
use Rattle.std.specs.Ordering.{is_gt}

-- the sorted list with x inserted before the first element that isn't less than x
abbrev pub placed : {X : Type 0} → (X → X → Ordering) → X → List X → List X
placed cmp x [] = x ∷ []
placed cmp x (y ∷ ys) = if is_gt (cmp x y) then y ∷ placed cmp x ys else x ∷ y ∷ ys

-- the list sorted by the comparison, stably
abbrev pub sorted_by : {X : Type 0} → (X → X → Ordering) → List X → List X
sorted_by cmp [] = []
sorted_by cmp (x ∷ xs) = placed cmp x (sorted_by cmp xs)
