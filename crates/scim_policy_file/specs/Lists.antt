-- Applying a partial function to each element of a list.
use Rattle.std.specs.Prelude.{List, [], ◌∷◌, Option, Some, option_map, option_and_then}

-- the results of a function on each element; None if one of them is None
abbrev pub each : {X Y : Type 0} → (X → Option Y) → List X → Option (List Y)
each f [] = Some []
each f (x ∷ xs) = option_and_then (λ y. option_map (λ ys. y ∷ ys) (each f xs)) (f x)
