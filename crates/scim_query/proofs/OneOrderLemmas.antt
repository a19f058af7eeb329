-- A list has one order: two sorted lists that have the same ties in the same order are equal.
use Rattle.std.proofs.Common.{◌≡◌, zero, suc, Bool, true, false, cond, List, [], ◌∷◌, All, refl, sym, ap, ◌∙◌, true≢false, arith}
use Rattle.std.specs.Cmp.{IsStrictWeakOrder}
use Rattle.std.specs.List.{filter, AllPairs}
use Rattle.std.specs.List.Sorted.{IsSortedBy, ties}
use Rattle.std.proofs.lemmas.List.Elements.{All-cons, All-head, All-tail}
use Rattle.std.proofs.lemmas.List.Sorted.{ranks_by, sorted_far}
use Rattle.scim_cell.specs.Content.{Content}
use Rattle.scim_query.specs.declared.queries.Query.{Query}
use Rattle.scim_query.specs.Order.{rank_of}
use Rattle.scim_query.specs.Pages.{IsInOrder}
use Rattle.scim_query.proofs.OrderLemmas.{rank_cmp_total}

true_unless : (b : Bool) → (b ≡ false → ⊥) → b ≡ true
true_unless true h = refl
true_unless false h = absurd (h refl)

false_unless : (b : Bool) → (b ≡ true → ⊥) → b ≡ false
false_unless true h = absurd (h refl)
false_unless false h = refl

module _ {X : Type 0} where
  filter_kept : (p : X → Bool) (x : X) (xs : List X) → p x ≡ true → filter p (x ∷ xs) ≡ x ∷ filter p xs
  filter_kept p x xs h = rw h refl

  behind_same : (b : Bool) (x : X) (xs ys : List X) → cond b (x ∷ xs) xs ≡ cond b (x ∷ ys) ys → xs ≡ ys
  behind_same true x xs ys same = cc
  behind_same false x xs ys same = same

  filter_behind : (p : X → Bool) (x y : X) (xs ys : List X) → x ≡ y → filter p (x ∷ xs) ≡ filter p (y ∷ ys) → filter p xs ≡ filter p ys
  filter_behind p x y xs ys e same = behind_same (p x) x _ _ (same ∙ ap (λ z. filter p (z ∷ ys)) (sym e))

module _ {X : Type 0} (lt : X → X → Bool) (o : IsStrictWeakOrder lt) where
  -- no element is less than one before it
  abbrev Rises : List X → Type 0
  Rises xs = AllPairs (λ a b. lt b a ≡ false) xs

  rises_behind : (x : X) (xs : List X) → Rises (x ∷ xs) → Rises xs
  rises_behind x xs up i j d below inside = up (suc i) (suc j) d (omega arith) (omega arith)

  irreflexive : (x : X) → lt x x ≡ false
  irreflexive x = false_unless (lt x x) (λ h. true≢false (sym h ∙ o.one_way x x h))

  ties_itself : (x : X) → ties lt x x ≡ true
  ties_itself x = rw (irreflexive x) refl

  -- what is less than one is less than all that aren't less than that one
  pub less_on : (x y e : X) → lt x y ≡ true → lt e y ≡ false → lt x e ≡ true
  less_on x y e below above = true_unless (lt x e) (λ f. true≢false (sym below ∙ o.chain x e y f above))

  no_ties : (x y : X) (es : List X) → lt x y ≡ true → All (λ e. lt e y ≡ false) es → filter (ties lt x) es ≡ []
  no_ties x y [] below above = refl
  no_ties x y (e ∷ es) below above =
      rw (less_on x y e below (All-head (λ z. lt z y ≡ false) e es above)) (no_ties x y es below (All-tail (λ z. lt z y ≡ false) e es above))

  not_less : (x y : X) (xs ys : List X) → Rises (y ∷ ys) → filter (ties lt x) (x ∷ xs) ≡ filter (ties lt x) (y ∷ ys) → lt x y ≡ false
  not_less x y xs ys up same = false_unless (lt x y) (λ below.
      let above : All (λ e. lt e y ≡ false) ys = λ j d inside. up zero (suc j) d (omega arith) (omega arith) in
      let none = no_ties x y (y ∷ ys) below (All-cons (λ e. lt e y ≡ false) y ys (irreflexive y) above) in
      let some = filter_kept (ties lt x) x xs (ties_itself x) in
      let nothing : x ∷ filter (ties lt x) xs ≡ [] = sym some ∙ same ∙ none in cc)

  one_order : (xs ys : List X) → Rises xs → Rises ys → ((z : X) → filter (ties lt z) xs ≡ filter (ties lt z) ys) → xs ≡ ys
  one_order [] [] up down same = refl
  one_order [] (y ∷ ys) up down same =
      let nothing : y ∷ filter (ties lt y) ys ≡ [] = sym (filter_kept (ties lt y) y ys (ties_itself y)) ∙ sym (same y) in cc
  one_order (x ∷ xs) [] up down same =
      let nothing : x ∷ filter (ties lt x) xs ≡ [] = sym (filter_kept (ties lt x) x xs (ties_itself x)) ∙ same x in cc
  one_order (x ∷ xs) (y ∷ ys) up down same =
      let one = not_less x y xs ys down (same x) in
      let other = not_less y x ys xs up (sym (same y)) in
      let tied : ties lt x y ≡ true = rw (one, other) refl in
      let lists : x ∷ filter (ties lt x) xs ≡ y ∷ filter (ties lt x) ys
      = sym (filter_kept (ties lt x) x xs (ties_itself x)) ∙ same x ∙ filter_kept (ties lt x) y ys tied in
      let first : x ≡ y = cc in
      let rest = one_order xs ys (rises_behind x xs up) (rises_behind y ys down) (λ z. filter_behind (ties lt z) x y xs ys first (same z)) in
      cc

  from_sorted : (xs : List X) → IsSortedBy lt xs → Rises xs
  from_sorted xs up i j d below inside = sorted_far lt o xs up i j d (omega arith) inside

pub one_list_in_order : (query : Query) (found xs ys : List Content) → IsInOrder query found xs → IsInOrder query found ys → xs ≡ ys
one_list_in_order query found xs ys p q =
    let o = ranks_by (rank_cmp_total query.descending) (rank_of query.sort_by) in
    one_order _ o xs ys (from_sorted _ o xs p.in_order) (from_sorted _ o ys q.in_order) (λ z. p.stable z ∙ sym (q.stable z))
