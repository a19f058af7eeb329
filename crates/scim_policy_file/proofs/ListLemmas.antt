-- What loops over lists have of the whole.
use Rattle.std.proofs.Common.{◌≡◌, refl, sym, ap, ◌∙◌, ℕ, ◌+◌, ◌<◌, List, [], ◌∷◌, ◌++◌, append_assoc, length, get_or, map, drop, Option, None, Some, option_map}
use Rattle.std.specs.Prelude.{option_and_then}
use Rattle.std.proofs.lemmas.List.{at_drop_more}
use Rattle.scim_policy_file.specs.Lists.{each}

-- what is made of the elements before the i-th, with what is made of those from it on, is what is made of all
abbrev pub IsMade : {Z X Y : Type 0} → (Z → X) → (X → Option Y) → List Y → ℕ → List Z → Type 0
IsMade v f done i zs = option_map (λ ys. done ++ ys) (each f (map v (drop i zs))) ≡ each f (map v zs)

-- the same of elements as they are
abbrev pub IsMadeOf : {X Y : Type 0} → (X → Option Y) → List Y → ℕ → List X → Type 0
IsMadeOf f done i xs = option_map (λ ys. done ++ ys) (each f (drop i xs)) ≡ each f xs

done_more : {Y : Type 0} (done : List Y) (y : Y) (rest : Option (List Y)) → option_map (λ ys. (done ++ y ∷ []) ++ ys) rest ≡ option_map (λ ys. done ++ ys) (option_map (λ ys. y ∷ ys) rest)
done_more done y None = refl
done_more done y (Some ys) = ap (λ all. Some all) (append_assoc done (y ∷ []) ys)

-- what is made of the elements from the i-th on, by what is made of that one
at_element : {Z X Y : Type 0} (v : Z → X) (f : X → Option Y) (i : ℕ) (zs : List Z) (d : Z) (o : Option Y) → i < length zs → f (v (get_or zs i d)) ≡ o → each f (map v (drop i zs)) ≡ option_and_then (λ y. option_map (λ ys. y ∷ ys) (each f (map v (drop (i + 1) zs)))) o
at_element v f i zs d o less gives =
    at_drop_more (λ qs. each f (map v qs)) zs i d less ∙ ap (option_and_then (λ y. option_map (λ ys. y ∷ ys) (each f (map v (drop (i + 1) zs))))) gives

-- something is made of one element more
pub made_more : {Z X Y : Type 0} (v : Z → X) (f : X → Option Y) (done : List Y) (i : ℕ) (zs : List Z) (d : Z) (y : Y) → i < length zs → f (v (get_or zs i d)) ≡ Some y → IsMade v f done i zs → IsMade v f (done ++ y ∷ []) (i + 1) zs
made_more v f done i zs d y less gives made =
    done_more done y (each f (map v (drop (i + 1) zs))) ∙ ap (option_map (λ ys. done ++ ys)) (sym (at_element v f i zs d (Some y) less gives)) ∙ made

-- where nothing is made of one element, nothing is made of all
pub made_none : {Z X Y : Type 0} (v : Z → X) (f : X → Option Y) (done : List Y) (i : ℕ) (zs : List Z) (d : Z) → i < length zs → f (v (get_or zs i d)) ≡ None → IsMade v f done i zs → each f (map v zs) ≡ None
made_none v f done i zs d less gives made = sym made ∙ ap (option_map (λ ys. done ++ ys)) (at_element v f i zs d None less gives)
