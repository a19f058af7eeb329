-- The rows of an attribute among others.
use Rattle.std.proofs.Common.{◌≡◌, ℕ, zero, suc, Bool, true, false, eqb, arith, List, [], ◌∷◌, filter, take, drop, refl, sym, ap}
use Rattle.std.specs.Prelude.{All, Some}
use Rattle.std.specs.List.{slice_get}
use denote.Enum.Bare.{sameb}
use Rattle.std.proofs.lemmas.Bool.{cond_both}
use Rattle.std.proofs.lemmas.Bool.Decides.{nat_tests}
use Rattle.std.proofs.lemmas.List.Elements.{filter_passes, All-head, All-tail, All-take, All-drop}
use Rattle.scim_schema.specs.declared.Attribute.{Attribute}
use Rattle.scim_schema.specs.contracts.Attribute.{the_type as the_attribute}
use Rattle.scim_cell.specs.Rows.{Row, attribute_rows}

all_kept : {X : Type 0} (p : X → Bool) (xs : List X) → All (λ x. p x ≡ true) xs → filter p xs ≡ xs
all_kept p [] h = refl
all_kept p (x ∷ xs) h =
    let e : p x ≡ true = All-head (λ y. p y ≡ true) x xs h in
    rw e (ap (λ l. x ∷ l) (all_kept p xs (All-tail (λ y. p y ≡ true) x xs h)))

abbrev is_own : Attribute → Row → Bool
is_own a r = sameb the_attribute r.unit.attribute a

abbrev IsOwn : Attribute → Row → Type 0
IsOwn a r = is_own a r ≡ true

pub own_again : (a : Attribute) (rs : List Row) → attribute_rows a (attribute_rows a rs) ≡ attribute_rows a rs
own_again a rs = all_kept (is_own a) _ (filter_passes (is_own a) rs)

apart : (m n k : ℕ) → eqb m n ≡ true → eqb n k ≡ false → eqb m k ≡ false
apart m n k s e = grind (arith, nat_tests)

pub none_of_another : (a b : Attribute) (rs : List Row) → sameb the_attribute a b ≡ false → attribute_rows b (attribute_rows a rs) ≡ []
none_of_another a b [] e = refl
none_of_another a b (r ∷ rs) e =
    let rest = none_of_another a b rs e in
    cond_both (sameb the_attribute r.unit.attribute a) (r ∷ attribute_rows a rs) (attribute_rows a rs) (λ l. attribute_rows b l ≡ [])
    (λ own. (let other : sameb the_attribute r.unit.attribute b ≡ false = apart _ _ _ own e in rw other rest))
    (λ _. rest)

pub one_again : (a : Attribute) (rs : List Row) (k : ℕ) → attribute_rows a (take 1 (drop k (attribute_rows a rs))) ≡ take 1 (drop k (attribute_rows a rs))
one_again a rs k = all_kept (is_own a) _ (All-take (IsOwn a) 1 _ (All-drop (IsOwn a) k _ (filter_passes (is_own a) rs)))

pub one_taken : (rs : List Row) (k : ℕ) (r : Row) → slice_get rs k ≡ Some r → r ∷ [] ≡ take 1 (drop k rs)
one_taken [] k r e = absurd cc
one_taken (q ∷ rs) zero r e = let same : q ≡ r = cc in ap (λ x. x ∷ []) (sym same)
one_taken (q ∷ rs) (suc k) r e = one_taken rs k r e
