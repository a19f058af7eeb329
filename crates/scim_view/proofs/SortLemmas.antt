-- A list that was sorted, with ties as they stood, is the one that `sorted_by` gives.
use Rattle.std.proofs.Common.{◌≡◌, suc, Bool, true, false, not, cond, ◌&&◌, List, [], ◌∷◌, map, filter, refl, sym, ap, ◌∙◌, arith, inl, inr, Ordering, Less, Equal, Greater, is_lt, is_gt, is_eq, IsSorted, add-one}
use Rattle.std.proofs.Math.Path.{fun_ext}
use Rattle.std.specs.List.{AllByRecursion}
use Rattle.std.specs.List.Sorted.{ties, IsStable}
use Rattle.std.specs.Cmp.{IsTotalOrder}
use Rattle.std.specs.Ordering.{ordering_reverse}
use Rattle.std.proofs.lemmas.Bool.{cases_Bool, true≢false}
use Rattle.std.proofs.lemmas.Cmp.{tied_itself, upto}
use Rattle.scim_view.specs.Sorted.{placed, sorted_by}

filter-kept : {X : Type 0} (p : X → Bool) (x : X) (xs : List X) → p x ≡ true → filter p (x ∷ xs) ≡ x ∷ filter p xs
filter-kept p x xs h = rw h refl

filter-dropped : {X : Type 0} (p : X → Bool) (x : X) (xs : List X) → p x ≡ false → filter p (x ∷ xs) ≡ filter p xs
filter-dropped p x xs h = rw h refl

all_weaker : {X : Type 0} (P Q : X → Type 0) → ((x : X) → P x → Q x) → (xs : List X) → AllByRecursion P xs → AllByRecursion Q xs
all_weaker P Q f [] h = tt
all_weaker P Q f (x ∷ xs) h = (f x h.0, all_weaker P Q f xs h.1)

module _ {X : Type 0} (cmp : X → X → Ordering) (total : IsTotalOrder cmp) where
  abbrev AtMost : X → X → Type 0
  AtMost a b = is_gt (cmp a b) ≡ false

  abbrev Rises : List X → Type 0
  Rises [] = Unit {0}
  Rises (x ∷ xs) = AllByRecursion (AtMost x) xs × Rises xs

  turned : (o : Ordering) → is_lt o ≡ false → is_gt (ordering_reverse o) ≡ false
  turned Less h = h
  turned Equal h = refl
  turned Greater h = refl

  turned_gt : (o : Ordering) → is_gt o ≡ true → is_gt (ordering_reverse o) ≡ false
  turned_gt Less h = cc
  turned_gt Equal h = refl
  turned_gt Greater h = refl

  below_all : (x : X) (ys : List X) → IsSorted cmp (x ∷ ys) → Rises ys → AllByRecursion (AtMost x) ys
  below_all x [] sorted up = tt
  below_all x (y ∷ ys) sorted up =
      let first : AtMost x y = ap is_gt (total.antisymm x y) ∙ turned _ (sorted 0 x (omega arith) (omega arith)) in
      (first, all_weaker _ (AtMost x) (λ z. upto total x y z first) ys up.0)

  rises-from_sorted : (xs : List X) → IsSorted cmp xs → Rises xs
  rises-from_sorted [] sorted = tt
  rises-from_sorted (x ∷ xs) sorted =
      let tail : IsSorted cmp xs = λ k d p q. rw add-one (rw add-one at (sorted (suc k) d (omega arith) (omega arith))) in
      let up = rises-from_sorted xs tail in
      (below_all x xs sorted up, up)

  all-placed : (P : X → Type 0) (new : X) (xs : List X) → P new → AllByRecursion P xs → AllByRecursion P (placed cmp new xs)
  all-placed P new [] h all = (h, tt)
  all-placed P new (x ∷ xs) h all =
      elim (is_gt (cmp new x)) as (λ b. AllByRecursion P (cond b (x ∷ placed cmp new xs) (new ∷ x ∷ xs))) [ true ↦ (all.0, all-placed P new xs h all.1) | false ↦ (h, all) ]

  rises-placed : (new : X) (xs : List X) → Rises xs → Rises (placed cmp new xs)
  rises-placed new [] up = (tt, tt)
  rises-placed new (x ∷ xs) up =
      elim (cases_Bool (is_gt (cmp new x))) [
        | inl above ↦
            let here : AtMost x new = ap is_gt (total.antisymm x new) ∙ turned_gt _ above in
            rw above (all-placed (AtMost x) new xs here up.0, rises-placed new xs up.1)
        | inr upon ↦ rw upon ((upon, all_weaker _ (AtMost new) (λ z. upto total new x z upon) xs up.0), up)
      ]

  rises-sorted_by : (xs : List X) → Rises (sorted_by cmp xs)
  rises-sorted_by [] = tt
  rises-sorted_by (x ∷ xs) = rises-placed x _ (rises-sorted_by xs)

  -- whether two tie
  abbrev level : X → X → Bool
  level x y = is_eq (cmp x y)

  level_by : (o : Ordering) → (not (is_lt o) && not (is_lt (ordering_reverse o))) ≡ is_eq o
  level_by Less = refl
  level_by Equal = refl
  level_by Greater = refl

  ties_level : (x y : X) → ties (λ a b. is_lt (cmp a b)) x y ≡ level x y
  ties_level x y = ap (λ (o : Ordering). not (is_lt (cmp x y)) && not (is_lt o)) (total.antisymm y x) ∙ level_by (cmp x y)

  equal_from : (o : Ordering) → is_eq o ≡ true → o ≡ Equal
  equal_from Less h = cc
  equal_from Equal h = refl
  equal_from Greater h = cc

  -- of two that tie with one, neither is above the other
  both_level : (x a b : X) → level x a ≡ true → level x b ≡ true → is_gt (cmp a b) ≡ false
  both_level x a b p q =
      ap is_gt (sym (total.congr x a b (equal_from _ p)) ∙ equal_from _ q)

  filter-placed : (x new : X) (ys : List X) → filter (level x) (placed cmp new ys) ≡ filter (level x) (new ∷ ys)
  filter-placed x new [] = refl
  filter-placed x new (y ∷ ys) =
      let ih = filter-placed x new ys in
      elim (cases_Bool (is_gt (cmp new y))) [
        | inr upon ↦ rw upon refl
        | inl above ↦ elim (cases_Bool (level x new)) [
          | inr other ↦ elim (cases_Bool (level x y)) [
            | inl own ↦ rw (above, own, other) (ap (λ l. y ∷ l) (ih ∙ filter-dropped (level x) new ys other))
            | inr neither ↦ rw (above, neither, other) (ih ∙ filter-dropped (level x) new ys other)
          ]
          | inl own ↦ elim (cases_Bool (level x y)) [
            | inl both ↦ absurd (true≢false (sym above ∙ both_level x new y own both))
            | inr other ↦ rw (above, other, own) (ih ∙ filter-kept (level x) new ys own)
          ]
        ]
      ]

  filter-sorted_by : (x : X) (xs : List X) → filter (level x) (sorted_by cmp xs) ≡ filter (level x) xs
  filter-sorted_by x [] = refl
  filter-sorted_by x (y ∷ ys) =
      let ih = filter-sorted_by x ys in
      filter-placed x y (sorted_by cmp ys) ∙ elim (cases_Bool (level x y)) [
        | inl own ↦ rw own (ap (λ l. y ∷ l) ih)
        | inr other ↦ rw other ih
      ]

  -- n is at most each of ys, and one of those ties with x
  at_most_found : (n x : X) (ys : List X) (w : X) (ws : List X) → AllByRecursion (AtMost n) ys → filter (level x) ys ≡ w ∷ ws → AtMost n x
  at_most_found n x [] w ws h e = cc
  at_most_found n x (y ∷ ys) w ws h e =
      elim (cases_Bool (level x y)) [
        | inl own ↦
            let tie : cmp x y ≡ Equal = equal_from _ own in
            ap is_gt (total.antisymm n x ∙ ap ordering_reverse (total.congr x y n tie) ∙ sym (total.antisymm n y)) ∙ h.0
        | inr other ↦ at_most_found n x ys w ws h.1 (sym (filter-dropped (level x) y ys other) ∙ e)
      ]

  own_level : (x : X) → level x x ≡ true
  own_level x = ap is_eq (tied_itself total x)

  level_of : (o : Ordering) → is_gt o ≡ false → is_gt (ordering_reverse o) ≡ false → is_eq o ≡ true
  level_of Less p q = cc
  level_of Equal p q = refl
  level_of Greater p q = cc

  same_from_levels : (ys zs : List X) → Rises ys → Rises zs → ((x : X) → filter (level x) ys ≡ filter (level x) zs) → ys ≡ zs
  same_from_levels [] [] left right same = refl
  same_from_levels [] (z ∷ zs) left right same =
      let clash = same z ∙ filter-kept (level z) z zs (own_level z) in cc
  same_from_levels (y ∷ ys) [] left right same =
      let clash = sym (same y) ∙ filter-kept (level y) y ys (own_level y) in cc
  same_from_levels (y ∷ ys) (z ∷ zs) left right same =
      let at_y = filter-kept (level y) y ys (own_level y) in
      let at_z = filter-kept (level z) z zs (own_level z) in
      let not_above : (x : X) → AtMost x x = λ x. ap is_gt (tied_itself total x) in
      let up : AtMost z y = at_most_found z y (z ∷ zs) y _ (not_above z, right.0) (sym (same y) ∙ at_y) in
      let down : AtMost y z = at_most_found y z (y ∷ ys) z _ (not_above y, left.0) (same z ∙ at_z) in
      let tie : level y z ≡ true = level_of (cmp y z) down (sym (ap is_gt (total.antisymm z y)) ∙ up) in
      let heads = sym at_y ∙ same y ∙ filter-kept (level y) z zs tie in
      let head : y ≡ z = cc in
      let tails : (x : X) → filter (level x) ys ≡ filter (level x) zs =
      λ x. elim (cases_Bool (level x y)) [
        | inl own ↦
            let both = sym (filter-kept (level x) y ys own) ∙ same x ∙ filter-kept (level x) z zs (ap (level x) (sym head) ∙ own) in cc
        | inr other ↦
            sym (filter-dropped (level x) y ys other) ∙ same x ∙ filter-dropped (level x) z zs (ap (level x) (sym head) ∙ other)
      ] in
      ap (λ w. w ∷ ys) head ∙ ap (λ l. z ∷ l) (same_from_levels ys zs left.1 right.1 tails)

  pub sorted_is-sorted_by : (xs ys : List X) → IsSorted cmp ys → IsStable cmp xs ys → ys ≡ sorted_by cmp xs
  sorted_is-sorted_by xs ys sorted stable =
      same_from_levels ys (sorted_by cmp xs) (rises-from_sorted ys sorted) (rises-sorted_by xs)
      (λ x. (let tests : ties (λ a b. is_lt (cmp a b)) x ≡ level x = fun_ext (ties_level x) in
      sym (ap (λ p. filter p ys) tests) ∙ stable x ∙ ap (λ p. filter p xs) tests ∙ sym (filter-sorted_by x xs)))

placed-map : {A B : Type 0} (cmp : B → B → Ordering) (f : A → B) (new : A) (xs : List A) → placed cmp (f new) (map f xs) ≡ map f (placed (λ a b. cmp (f a) (f b)) new xs)
placed-map cmp f new [] = refl
placed-map cmp f new (x ∷ xs) =
    elim (is_gt (cmp (f new) (f x))) as (λ b. cond b (f x ∷ placed cmp (f new) (map f xs)) (f new ∷ f x ∷ map f xs) ≡ map f (cond b (x ∷ placed (λ a c. cmp (f a) (f c)) new xs) (new ∷ x ∷ xs)))
    [ true ↦ ap (λ l. f x ∷ l) (placed-map cmp f new xs) | false ↦ refl ]

pub sorted_by-map : {A B : Type 0} (cmp : B → B → Ordering) (f : A → B) (xs : List A) → sorted_by cmp (map f xs) ≡ map f (sorted_by (λ a b. cmp (f a) (f b)) xs)
sorted_by-map cmp f [] = refl
sorted_by-map cmp f (x ∷ xs) = ap (placed cmp (f x)) (sorted_by-map cmp f xs) ∙ placed-map cmp f x _
