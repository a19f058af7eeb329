-- Where a resource stands among resources in order of id.
use Rattle.std.proofs.Common.{◌≡◌, refl, sym, ◌∙◌, ap, subst, ℕ, List, [], ◌∷◌, ◌++◌}
use Rattle.std.specs.Ordering.{nat_cmp, ordering_reverse}
use Rattle.std.specs.declared.cmp.Ordering.{Ordering}
use Rattle.std.specs.declared.cmp.Ordering.TheVariants.{Less, Equal, Greater}
use Rattle.std.specs.Cmp.{IsTotalOrder}
use Rattle.std.specs.Cmp.Lexicographic.{slice_cmp}
use Rattle.std.specs.List.{AllByRecursion}
use Rattle.std.specs.List.Sorted.{IsStrictlySortedBy}
use Rattle.std.proofs.lemmas.Cmp.{nat_list_cmp_total}
use Rattle.std.proofs.lemmas.Map.Keys.{sorted_head}
use Rattle.std.proofs.lemmas.Map.Lookups.{exact_bytes}
use Rattle.scim_cell.specs.Content.{Content}
use Rattle.scim_cell.specs.Order.{id_cmp}
use Rattle.scim_shelf.specs.Stores.{below, above, keep, without}

-- the ids of these are above an id
abbrev pub AreAbove : List ℕ → List Content → Type 0
AreAbove id cs = AllByRecursion (λ c. slice_cmp nat_cmp id c.id ≡ Less) cs

-- a proof by how two things compare
pub by_order : {G : Type 0} (o : Ordering) → (o ≡ Less → G) → (o ≡ Equal → G) → (o ≡ Greater → G) → G
by_order Less less equal greater = less refl
by_order Equal less equal greater = equal refl
by_order Greater less equal greater = greater refl

order : IsTotalOrder (slice_cmp nat_cmp)
order = nat_list_cmp_total

-- the other way round
pub reversed : (x y : List ℕ) (o : Ordering) → slice_cmp nat_cmp x y ≡ o → slice_cmp nat_cmp y x ≡ ordering_reverse o
reversed x y o h = order.antisymm y x ∙ ap ordering_reverse h

pub above_lower : (x y : List ℕ) (cs : List Content) → slice_cmp nat_cmp x y ≡ Less → AreAbove y cs → AreAbove x cs
above_lower x y [] h up = tt
above_lower x y (c ∷ cs) h up = (order.trans x y c.id h up.0, above_lower x y cs h up.1)

pub later_above : (c : Content) (cs : List Content) → IsStrictlySortedBy id_cmp (c ∷ cs) → AreAbove c.id cs
later_above c cs sorted = sorted_head id_cmp c cs sorted

pub below_none : (id : List ℕ) (cs : List Content) → AreAbove id cs → below id cs ≡ []
below_none id [] up = refl
below_none id (c ∷ cs) up = rw (reversed id c.id Less up.0) (below_none id cs up.1)

pub above_all : (id : List ℕ) (cs : List Content) → AreAbove id cs → above id cs ≡ cs
above_all id [] up = refl
above_all id (c ∷ cs) up = rw (reversed id c.id Less up.0) (ap (λ (xs : List Content). c ∷ xs) (above_all id cs up.1))

module _ (id : List ℕ) (d : Content) (ds : List Content) where
  -- where the id is that of the first, or below it, the others are above it
  equal_above : slice_cmp nat_cmp id d.id ≡ Equal → AreAbove d.id ds → AreAbove id ds
  equal_above same up = subst (λ (x : List ℕ). AreAbove x ds) (sym (exact_bytes id d.id same)) up

  below_equal : slice_cmp nat_cmp id d.id ≡ Equal → AreAbove d.id ds → below id (d ∷ ds) ≡ []
  below_equal same up = rw (reversed id d.id Equal same) (below_none id ds (equal_above same up))

  above_equal : slice_cmp nat_cmp id d.id ≡ Equal → AreAbove d.id ds → above id (d ∷ ds) ≡ ds
  above_equal same up = rw (reversed id d.id Equal same) (above_all id ds (equal_above same up))

  below_greater : slice_cmp nat_cmp id d.id ≡ Greater → below id (d ∷ ds) ≡ d ∷ below id ds
  below_greater h = rw (reversed id d.id Greater h) refl

  above_greater : slice_cmp nat_cmp id d.id ≡ Greater → above id (d ∷ ds) ≡ above id ds
  above_greater h = rw (reversed id d.id Greater h) refl

-- how one is kept among others, by how it compares to the first
pub keep_less : (c d : Content) (ds : List Content) → id_cmp c d ≡ Less → AreAbove d.id ds → keep c (d ∷ ds) ≡ c ∷ d ∷ ds
keep_less c d ds less up =
    let all : AreAbove c.id (d ∷ ds) = (less, above_lower c.id d.id ds less up) in
    λ i. below_none c.id (d ∷ ds) all i ++ c ∷ above_all c.id (d ∷ ds) all i

pub keep_equal : (c d : Content) (ds : List Content) → id_cmp c d ≡ Equal → AreAbove d.id ds → keep c (d ∷ ds) ≡ c ∷ ds
keep_equal c d ds same up = λ i. below_equal c.id d ds same up i ++ c ∷ above_equal c.id d ds same up i

pub keep_greater : (c d : Content) (ds : List Content) → id_cmp c d ≡ Greater → keep c (d ∷ ds) ≡ d ∷ keep c ds
keep_greater c d ds greater = λ i. below_greater c.id d ds greater i ++ c ∷ above_greater c.id d ds greater i

-- how the one of an id is left out, by how the id compares to that of the first
pub without_less : (id : List ℕ) (d : Content) (ds : List Content) → slice_cmp nat_cmp id d.id ≡ Less → AreAbove d.id ds → without id (d ∷ ds) ≡ d ∷ ds
without_less id d ds less up =
    let all : AreAbove id (d ∷ ds) = (less, above_lower id d.id ds less up) in
    λ i. below_none id (d ∷ ds) all i ++ above_all id (d ∷ ds) all i

pub without_equal : (id : List ℕ) (d : Content) (ds : List Content) → slice_cmp nat_cmp id d.id ≡ Equal → AreAbove d.id ds → without id (d ∷ ds) ≡ ds
without_equal id d ds same up = λ i. below_equal id d ds same up i ++ above_equal id d ds same up i

pub without_greater : (id : List ℕ) (d : Content) (ds : List Content) → slice_cmp nat_cmp id d.id ≡ Greater → without id (d ∷ ds) ≡ d ∷ without id ds
without_greater id d ds greater = λ i. below_greater id d ds greater i ++ above_greater id d ds greater i
