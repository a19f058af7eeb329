-- A list in order with one more is in order, and its first elements are told by the first elements.
use Rattle.std.proofs.Common.{◌≡◌, ℕ, zero, suc, ◌<◌, ◌≤◌, Bool, true, false, not, ◌&&◌, add-one, cond, List, [], ◌∷◌, ◌++◌, map, length, take, drop, get_or, insert, refl, sym, ap, ◌∙◌, arith, true≢false}
use Rattle.std.specs.Cmp.{IsStrictWeakOrder}
use Rattle.std.specs.List.{filter}
use Rattle.std.specs.List.Sorted.{IsPermutation, IsSortedBy, IsStableBy, IsPartitionedBy, IsPartitionPoint, ties}
use Rattle.std.proofs.lemmas.List.{append-nil, take-take, take-append-le, length-take}
use Rattle.std.proofs.lemmas.List.Elements.{filter-append}
use Rattle.std.proofs.lemmas.List.Sorted.{IsPermutation-refl, IsPermutation-cons, IsPermutation-to_front, IsPermutation-append_left, IsPermutation-trans, sorted_far}
use Rattle.scim_query.specs.Arranged.{placed}
use Rattle.scim_query.proofs.OneOrderLemmas.{less_on}

false_of_not : (b : Bool) → not b ≡ true → b ≡ false
false_of_not true h = absurd (true≢false (sym h))
false_of_not false h = refl

true_of_not : (b : Bool) → not b ≡ false → b ≡ true
true_of_not true h = refl
true_of_not false h = absurd (true≢false h)

module _ {X : Type 0} (lt : X → X → Bool) where
  sorted_cons : (y : X) (ys : List X) → ((d : X) → 0 < length ys → lt (get_or ys 0 d) y ≡ false) → IsSortedBy lt ys → IsSortedBy lt (y ∷ ys)
  sorted_cons y ys head up zero d low high = head d (omega arith)
  sorted_cons y ys head up (suc k) d low high =
      let h = up k d (omega arith) (omega arith) in
      rw (add-one (suc k)) (rw (add-one k) at h)

  sorted_tail : (y : X) (ys : List X) → IsSortedBy lt (y ∷ ys) → IsSortedBy lt ys
  sorted_tail y ys up k d low high =
      let h = up (suc k) d (omega arith) (omega arith) in
      rw (add-one k) (rw (add-one (suc k)) at h)

  sorted_head : (y : X) (ys : List X) → IsSortedBy lt (y ∷ ys) → (d : X) → 0 < length ys → lt (get_or ys 0 d) y ≡ false
  sorted_head y ys up d some = up zero d (omega arith) (omega arith)

  first_taken : (n : ℕ) (y : X) (ys : List X) → IsSortedBy lt (y ∷ ys) → (d : X) → 0 < length (take n ys) → lt (get_or (take n ys) 0 d) y ≡ false
  first_taken zero y ys up d some = absurd (omega arith)
  first_taken (suc n) y [] up d some = absurd (omega arith)
  first_taken (suc n) y (z ∷ zs) up d some = sorted_head y (z ∷ zs) up d (omega arith)

  -- the first elements of a list in order are in order
  pub IsSortedBy-take : (n : ℕ) (ys : List X) → IsSortedBy lt ys → IsSortedBy lt (take n ys)
  IsSortedBy-take zero ys up = λ k d low high. absurd (omega arith)
  IsSortedBy-take (suc n) [] up = up
  IsSortedBy-take (suc n) (y ∷ ys) up = sorted_cons y (take n ys) (first_taken n y ys up) (IsSortedBy-take n ys (sorted_tail y ys up))

  perm_if : (b : Bool) (x y : X) (ys : List X) → IsPermutation (ys ++ x ∷ []) (placed lt x ys) → IsPermutation ((y ∷ ys) ++ x ∷ []) (cond b (x ∷ y ∷ ys) (y ∷ placed lt x ys))
  perm_if true x y ys rest = IsPermutation-to_front (y ∷ ys) x
  perm_if false x y ys rest = IsPermutation-cons y (ys ++ x ∷ []) (placed lt x ys) rest

  perm_placed : (x : X) (ys : List X) → IsPermutation (ys ++ x ∷ []) (placed lt x ys)
  perm_placed x [] = IsPermutation-refl (x ∷ [])
  perm_placed x (y ∷ ys) = perm_if (lt x y) x y ys (perm_placed x ys)

  -- it has the elements of the list and the one more
  pub members_more : (x : X) (xs ys : List X) → IsPermutation xs ys → IsPermutation (xs ++ x ∷ []) (placed lt x ys)
  members_more x xs ys members =
      IsPermutation-trans (xs ++ x ∷ []) (ys ++ x ∷ []) (placed lt x ys) (IsPermutation-append_left (x ∷ []) xs ys members) (perm_placed x ys)

  if_placed : (b : Bool) (n : ℕ) (x y : X) (ys zs : List X) → take n (placed lt x ys) ≡ take n (placed lt x zs) → take n (y ∷ ys) ≡ take n (y ∷ zs)
      → take (suc n) (cond b (x ∷ y ∷ ys) (y ∷ placed lt x ys)) ≡ take (suc n) (cond b (x ∷ y ∷ zs) (y ∷ placed lt x zs))
  if_placed true n x y ys zs rest same = ap (λ t. x ∷ t) same
  if_placed false n x y ys zs rest same = ap (λ t. y ∷ t) rest

  same_head : (n : ℕ) (y : X) (ys : List X) → take n (y ∷ take n ys) ≡ take n (y ∷ ys)
  same_head zero y ys = refl
  same_head (suc n) y ys = ap (λ t. y ∷ t) (take-take n (suc n) ys (omega arith))

  -- of a list in order with one more the first n are told by the first n
  pub take_placed : (n : ℕ) (x : X) (ys : List X) → take n (placed lt x (take n ys)) ≡ take n (placed lt x ys)
  take_placed zero x ys = refl
  take_placed (suc n) x [] = refl
  take_placed (suc n) x (y ∷ ys) = if_placed (lt x y) n x y (take n ys) ys (take_placed n x ys) (same_head n y ys)

  -- the place is that where those end that x does not come before
  pub placed_at : (x : X) (ys : List X) (i : ℕ) → i ≤ length ys → IsPartitionPoint (λ y. not (lt x y) ≡ true) (λ y. not (lt x y) ≡ false) ys i → placed lt x ys ≡ insert ys i x
  placed_at x [] zero within point = refl
  placed_at x [] (suc i) within point = absurd (omega arith)
  placed_at x (y ∷ ys) zero within point = rw (true_of_not (lt x y) (point.1 0 y (omega arith) (omega arith))) refl
  placed_at x (y ∷ ys) (suc i) within point =
      rw (false_of_not (lt x y) (point.0 0 y (omega arith) (omega arith)))
      (ap (λ t. y ∷ t) (placed_at x ys i (omega arith) (λ k d l h. point.0 (suc k) d (omega arith) (omega arith), λ k d l h. point.1 (suc k) d (omega arith) (omega arith))))

  -- what comes behind the first n changes none of them
  pub placed_past : (n : ℕ) (x : X) (ys : List X) (i : ℕ) → n ≤ i → i ≤ length ys → IsPartitionPoint (λ y. not (lt x y) ≡ true) (λ y. not (lt x y) ≡ false) ys i → take n (placed lt x ys) ≡ take n ys
  placed_past n x ys i past within point =
      ap (take n) (placed_at x ys i within point) ∙ take-append-le n (take i ys) (x ∷ drop i ys) (omega (arith, length-take i ys)) ∙ take-take n i ys past

module _ {X : Type 0} (lt : X → X → Bool) (o : IsStrictWeakOrder lt) where
  first_placed : (x y : X) (ys : List X) → lt x y ≡ false → ((d : X) → 0 < length ys → lt (get_or ys 0 d) y ≡ false) → (d : X) → lt (get_or (placed lt x ys) 0 d) y ≡ false
  first_placed x y [] h head d = h
  first_placed x y (z ∷ zs) h head d = elim (lt x z) as (λ (b : Bool). lt (get_or (cond b (x ∷ z ∷ zs) (z ∷ placed lt x zs)) 0 d) y ≡ false) [ true ↦ h | false ↦ head d (omega arith) ]

  sorted_if : (b : Bool) (x y : X) (ys : List X) → lt x y ≡ b → IsSortedBy lt (y ∷ ys) → IsSortedBy lt (placed lt x ys) → IsSortedBy lt (cond b (x ∷ y ∷ ys) (y ∷ placed lt x ys))
  sorted_if true x y ys is up rest = sorted_cons lt x (y ∷ ys) (λ d some. o.one_way x y is) up
  sorted_if false x y ys is up rest = sorted_cons lt y (placed lt x ys) (λ d some. first_placed x y ys is (sorted_head lt y ys up) d) rest

  -- it is in order
  pub sorted_placed : (x : X) (ys : List X) → IsSortedBy lt ys → IsSortedBy lt (placed lt x ys)
  sorted_placed x [] up = λ k d low high. absurd (omega arith)
  sorted_placed x (y ∷ ys) up = sorted_if (lt x y) x y ys refl up (sorted_placed x ys (sorted_tail lt y ys up))

  -- what x comes before stands behind what it does not come before
  partition_if : (a b : Bool) → (a ≡ true → b ≡ true) → not b ≡ true → not a ≡ true
  partition_if true b up h = absurd (true≢false (sym (rw (up refl) at h)))
  partition_if false b up h = refl

  pub partitioned : (x : X) (ys : List X) → IsSortedBy lt ys → IsPartitionedBy (λ y. not (lt x y)) ys
  partitioned x ys up i j d before within later =
      partition_if (lt x (get_or ys i d)) (lt x (get_or ys j d)) (λ below. less_on lt o x (get_or ys i d) (get_or ys j d) below (sorted_far lt o ys up i j d before within)) later

  not_tied : (z x e : X) → ties lt z x ≡ true → lt x e ≡ true → ties lt z e ≡ false
  not_tied z x e tied below = go (lt z x) (lt x z) (lt z e) (lt e z) refl refl refl tied
    where
      go : (a b u v : Bool) → lt z x ≡ a → lt x z ≡ b → lt z e ≡ u → not a && not b ≡ true → not u && not v ≡ false
      go a b true v p q r t = refl
      go true b false v p q r t = absurd (true≢false (sym t))
      go false true false v p q r t = absurd (true≢false (sym t))
      go false false false v p q r t = absurd (true≢false (sym below ∙ o.chain x z e q r))

  none_tied : (z x : X) (es : List X) → ties lt z x ≡ true → ((k : ℕ) (d : X) → k < length es → lt x (get_or es k d) ≡ true) → filter (ties lt z) es ≡ []
  none_tied z x [] tied all = refl
  none_tied z x (e ∷ es) tied all = rw (not_tied z x e tied (all 0 e (omega arith))) (none_tied z x es tied (λ k d h. all (suc k) d (omega arith)))

  filter_if : (p : X → Bool) (b : Bool) (x : X) (ys : List X) → p x ≡ b → (b ≡ true → filter p ys ≡ []) → filter p (x ∷ ys) ≡ filter p (ys ++ x ∷ [])
  filter_if p true x ys is none = rw is (sym (filter-append p ys (x ∷ []) ∙ rw (is, none refl) refl))
  filter_if p false x ys is none = rw is (sym (filter-append p ys (x ∷ []) ∙ rw is (append-nil (filter p ys))))

  stable_if : (z : X) (b : Bool) (x y : X) (ys : List X) → lt x y ≡ b → IsSortedBy lt (y ∷ ys) → filter (ties lt z) (placed lt x ys) ≡ filter (ties lt z) (ys ++ x ∷ [])
      → filter (ties lt z) (cond b (x ∷ y ∷ ys) (y ∷ placed lt x ys)) ≡ filter (ties lt z) ((y ∷ ys) ++ x ∷ [])
  stable_if z true x y ys is up rest = filter_if (ties lt z) (ties lt z x) x (y ∷ ys) refl (λ tied. none_tied z x (y ∷ ys) tied (λ k d h. less_on lt o x y (get_or (y ∷ ys) k d) is (sorted_far lt o (y ∷ ys) up 0 k d (omega arith) h)))
  stable_if z false x y ys is up rest = ap (λ (t : List X). cond (ties lt z y) (y ∷ t) t) rest

  stable_placed : (z x : X) (ys : List X) → IsSortedBy lt ys → filter (ties lt z) (placed lt x ys) ≡ filter (ties lt z) (ys ++ x ∷ [])
  stable_placed z x [] up = refl
  stable_placed z x (y ∷ ys) up = stable_if z (lt x y) x y ys refl up (stable_placed z x ys (sorted_tail lt y ys up))

  -- and what ties keeps its order, the one more behind
  pub stable_more : (x : X) (xs ys : List X) → IsSortedBy lt ys → IsStableBy lt xs ys → IsStableBy lt (xs ++ x ∷ []) (placed lt x ys)
  stable_more x xs ys up stable z =
      stable_placed z x ys up ∙ filter-append (ties lt z) ys (x ∷ []) ∙ ap (λ (t : List X). t ++ filter (ties lt z) (x ∷ [])) (stable z) ∙ sym (filter-append (ties lt z) xs (x ∷ []))

module _ {X Y : Type 0} (f : X → Y) (lt : Y → Y → Bool) where
  map_if : (b : Bool) (x y : X) (ys : List X) (zs : List Y) → zs ≡ map f (placed (λ a e. lt (f a) (f e)) x ys)
      → cond b (f x ∷ f y ∷ map f ys) (f y ∷ zs) ≡ map f (cond b (x ∷ y ∷ ys) (y ∷ placed (λ a e. lt (f a) (f e)) x ys))
  map_if true x y ys zs rest = refl
  map_if false x y ys zs rest = ap (λ t. f y ∷ t) rest

  -- a list in order stays so where each element is given by a function
  pub placed-map : (x : X) (ys : List X) → placed lt (f x) (map f ys) ≡ map f (placed (λ a e. lt (f a) (f e)) x ys)
  placed-map x [] = refl
  placed-map x (y ∷ ys) = map_if (lt (f x) (f y)) x y ys _ (placed-map x ys)
