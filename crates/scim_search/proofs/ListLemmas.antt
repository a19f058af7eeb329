-- Lists: the first element and the rest.
use Rattle.std.proofs.Common.{◌≡◌, refl, sym, ap, ◌≤◌, ◌<◌, ◌-◌, Bool, true, false, List, [], ◌∷◌, length, length-drop, get_or, drop, take, take_all, arith}
use Rattle.std.specs.Prelude.{not}

-- what isn't denied is so
pub not_false : (b : Bool) → not b ≡ false → b ≡ true
not_false true e = refl
not_false false e = cc

-- what is behind the first, counted, is all that is behind it
pub rest_whole : {X : Type 0} (xs : List X) → take (length xs - 1) (drop 1 xs) ≡ drop 1 xs
rest_whole xs = take_all (length xs - 1) (drop 1 xs) (let long = length-drop 1 xs in omega (arith, long))

-- a list with an element is its first and the rest
pub first_and_rest : {X : Type 0} (xs : List X) (x : X) → 1 ≤ length xs → x ≡ get_or xs 0 x → xs ≡ x ∷ drop 1 xs
first_and_rest [] x long e = absurd (omega (arith, long))
first_and_rest (y ∷ ys) x long e = ap (λ z. z ∷ ys) (sym e)

-- a list without a first element is empty
pub no_first : {X : Type 0} (xs : List X) → length xs < 1 → xs ≡ []
no_first [] none = refl
no_first (x ∷ xs) none = absurd (omega (arith, none))

-- a list of one element is that element
pub only_first : {X : Type 0} (xs : List X) (x : X) → length xs ≡ 1 → x ≡ get_or xs 0 x → xs ≡ x ∷ []
only_first [] x long e = absurd (omega (arith, long))
only_first (y ∷ []) x long e = ap (λ z. z ∷ []) (sym e)
only_first (y ∷ z ∷ zs) x long e = absurd (omega (arith, long))
