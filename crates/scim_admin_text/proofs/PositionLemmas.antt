-- Where the first element stands that passes a test, or the end.
use Rattle.std.proofs.Common.{◌≡◌, refl, ℕ, Bool, true, false, cond, List, length, ◌≤◌, arith}
use Rattle.std.specs.Prelude.{nat_lt, None, Some, unwrap_or}
use Rattle.std.specs.List.{position_or_len}
use Rattle.std.proofs.lemmas.Bool.{ltb-false}
use Rattle.std.proofs.lemmas.List.Sums.{prefix_len-le-length}

-- the two cases of a test
pub by_bool : {P : Type 0} (b : Bool) → (b ≡ true → P) → (b ≡ false → P) → P
by_bool true t f = t refl
by_bool false t f = f refl

-- it is at most the end
pub position_within : (p : ℕ → Bool) (xs : List ℕ) → position_or_len p xs ≤ length xs
position_within p xs = prefix_len-le-length _ xs

-- the end stands for no position
pub position_or_end : (p : ℕ → Bool) (xs : List ℕ) → unwrap_or (cond (nat_lt (position_or_len p xs) (length xs)) (Some (position_or_len p xs)) None) (length xs) ≡ position_or_len p xs
position_or_end p xs =
    by_bool (nat_lt (position_or_len p xs) (length xs))
    (λ t. rw t refl)
    (λ f. rw f (let past : length xs ≤ position_or_len p xs = ltb-false _ _ f in let within = position_within p xs in omega arith))
