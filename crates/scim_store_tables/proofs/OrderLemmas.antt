-- Answers in order of their columns.
use Rattle.std.proofs.Common.{◌≡◌, ℕ, zero, suc, List, [], ◌∷◌, map, filter, Bool, true, false, refl, sym, ap, subst, ◌∙◌, arith, add-one}
use Rattle.std.specs.Prelude.{IsPermutation, IsSorted}
use Rattle.std.specs.List.{AllByRecursion}
use Rattle.std.specs.Cmp.{IsTotalOrder}
use Rattle.std.specs.Ordering.{is_lt, ordering_then}
use Rattle.std.specs.declared.cmp.Ordering.{Ordering}
use Rattle.std.specs.declared.cmp.Ordering.TheVariants.{Less, Equal}
use Rattle.std.proofs.lemmas.Cmp.{on_total, then_total}
use Rattle.std.proofs.lemmas.List.Elements.{recursion_from_All}
use Rattle.std.proofs.lemmas.List.Sorted.{sorted_far, ranks_by, IsPermutation-map}
use Rattle.sqlite_keyed.proofs.SortLemmas.{sorted_unique}
use Rattle.sqlite_value.proofs.OrderLemmas.{value_cmp_total}
use Rattle.sqlite_trees.proofs.ListLemmas.{map-map, filter_all, all-permutation, all_of, all-map}
use Rattle.sqlite_value.specs.declared.keys.Key.{Key}
use Rattle.sqlite.specs.Order.{Row, column, value_cmp}
use Rattle.sqlite.specs.Term.{Term, eval_all}
use Rattle.sqlite.specs.Tree.{Trees, IsAscending}
use Rattle.sqlite.specs.Program.{overlay}
use Rattle.sqlite.specs.Query.{Query, IsAnswer, Output, output, output_cmp}
use Rattle.sqlite.specs.State.{State, IsUnchanged}
use Rattle.scim_store_tables.specs.Reading.{columns_cmp, DoNotFall, Tells}
use Rattle.scim_store_tables.specs.Queries.{one_table}
use Rattle.scim_store_tables.proofs.QueryLemmas.{passes, outputs, no_lets}

module _ {X : Type 0} (cmp : X → X → Ordering) (o : IsTotalOrder cmp) where
  pub low_from_sorted : (ys : List X) → IsSorted cmp ys → IsAscending (λ a b. is_lt (cmp b a) ≡ false) ys
  low_from_sorted [] h = tt
  low_from_sorted (y ∷ ys) h = (
    recursion_from_All _ ys (λ j d low. sorted_far (λ a b. is_lt (cmp a b)) (ranks_by o (λ x. x)) (y ∷ ys) h 0 (suc j) d (omega arith) (omega arith)),
    low_from_sorted ys (λ k d low high. rw add-one (rw add-one at (h (suc k) d (omega arith) (omega arith)))),
  )

-- and the other way round
sorted_from_low : {X : Type 0} (cmp : X → X → Ordering) (ys : List X) → IsAscending (λ a b. is_lt (cmp b a) ≡ false) ys → IsSorted cmp ys
sorted_from_low cmp [] h = λ k d p q. absurd (omega (arith, q))
sorted_from_low cmp (y ∷ []) h = λ k d p q. absurd (omega (arith, q))
sorted_from_low cmp (y ∷ z ∷ ys) h = at (sorted_from_low cmp (z ∷ ys) h.1)
  where
    at : IsSorted cmp (z ∷ ys) → IsSorted cmp (y ∷ z ∷ ys)
    at rest zero d p q = h.0.0
    at rest (suc k) d p q = rw add-one (rw add-one at (rest k d (omega arith) (omega arith)))

no_order : IsTotalOrder {K = Row} (λ a b. Equal)
no_order = record { antisymm = λ x y. refl; trans = λ x y z h k. absurd (let e : Equal ≡ Less = h in cc); congr = λ x y z h. refl }

columns_total : (places : List ℕ) → IsTotalOrder (columns_cmp places)
columns_total [] = no_order
columns_total (place ∷ more) = then_total (on_total (λ (r : Row). column r place) value_cmp_total) (columns_total more)

-- what a row is ordered by and what it shows are the same in these columns
abbrev IsSameAt : List ℕ → Output → Type 0
IsSameAt places o = AllByRecursion (λ place. column o.0 place ≡ column o.1 place) places

same_cmp : (places : List ℕ) (p o : Output) → IsSameAt places p → IsSameAt places o → columns_cmp places p.0 o.0 ≡ columns_cmp places p.1 o.1
same_cmp [] p o e f = refl
same_cmp (place ∷ more) p o e f = λ i. ordering_then (value_cmp (e.0 i) (f.0 i)) (same_cmp more p o e.1 f.1 i)

shown_falls : (places : List ℕ) (os : List Output) → AllByRecursion (IsSameAt places) os → IsAscending (λ a b. is_lt (columns_cmp places b.0 a.0) ≡ false) os → DoNotFall places (map (λ (o : Output). o.1) os)
shown_falls places [] same low = tt
shown_falls places (o ∷ os) same low = (each os same.1 low.0, shown_falls places os same.1 low.1)
  where
    each : (os : List Output) → AllByRecursion (IsSameAt places) os → AllByRecursion (λ p. is_lt (columns_cmp places p.0 o.0) ≡ false) os → AllByRecursion (λ r. is_lt (columns_cmp places r o.1) ≡ false) (map (λ (o : Output). o.1) os)
    each [] all h = tt
    each (p ∷ os) all h = (ap is_lt (sym (same_cmp places p o all.0 same.0)) ∙ h.0, each os all.1 h.1)

all_true : (rows : List Row) → AllByRecursion (λ (r : Row). true ≡ true) rows
all_true [] = tt
all_true (r ∷ rows) = (refl, all_true rows)

-- the answer of a query on one table, ordered by columns that it shows
module _ (t : ℕ) (tests project : List Term) (order : List (Term × Key)) (places : List ℕ) (trees : Trees) (params : Row) (rows : List Row) (test : Row → Bool) (shows : Row → Row) (old new : State) where
  abbrev query : Query
  query = one_table t tests project order

  pub told_where : output_cmp query ≡ (λ p o. columns_cmp places p.0 o.0) → ((r : Row) → IsSameAt places (output query (params ∷ r ∷ []))) → ((r : Row) → eval_all project (params ∷ r ∷ []) ≡ shows r) → ((r : Row) → passes t tests project order params r ≡ test r)
      → IsUnchanged old new → IsAnswer query (overlay trees []) params rows → Tells places (map shows (filter test (trees t))) old new rows
  told_where by at outs passes_as unchanged a =
      let outs_of = λ (r : Row). output query (params ∷ r ∷ []) in
      let chosen = filter test (trees t) in
      let found = outputs t tests project order (overlay trees []) params rows a in
      let all : IsPermutation (map outs_of chosen) a.ordered = subst (λ xs. IsPermutation (map outs_of xs) a.ordered) ((λ i. filter (λ r. passes_as r i) (overlay trees [] t)) ∙ ap (filter test) (no_lets trees t)) found in
      let each : AllByRecursion (IsSameAt places) a.ordered = all-permutation _ _ _ all (all-map (IsSameAt places) outs_of chosen (all_of _ at chosen)) in
      let sorted : IsSorted (λ (p o : Output). columns_cmp places p.0 o.0) a.ordered = subst (λ (cmp : Output → Output → Ordering). IsSorted cmp a.ordered) by a.sorted in
      let falls = shown_falls places a.ordered each (low_from_sorted (λ (p o : Output). columns_cmp places p.0 o.0) (on_total (λ (o : Output). o.0) (columns_total places)) a.ordered sorted) in
      let values : map (λ (o : Output). o.1) (map outs_of chosen) ≡ map shows chosen = map-map _ _ _ ∙ (λ i. map (λ r. outs r i) chosen) in
      record {
        unchanged = unchanged;
        same = subst (λ xs. IsPermutation (map shows chosen) xs) (sym a.shown) (subst (λ xs. IsPermutation xs (map (λ (o : Output). o.1) a.ordered)) values (IsPermutation-map (λ (o : Output). o.1) _ _ all));
        order = subst (DoNotFall places) (sym a.shown) falls;
      }

-- the same on a whole table
pub told_in_order : (t : ℕ) (project : List Term) (order : List (Term × Key)) (places : List ℕ) (trees : Trees) (rows : List Row) (shows : Row → Row) (old new : State)
    → output_cmp (one_table t [] project order) ≡ (λ p o. columns_cmp places p.0 o.0) → ((r : Row) → IsSameAt places (output (one_table t [] project order) ([] ∷ r ∷ []))) → ((r : Row) → eval_all project ([] ∷ r ∷ []) ≡ shows r)
    → IsUnchanged old new → IsAnswer (one_table t [] project order) (overlay trees []) [] rows → Tells places (map shows (trees t)) old new rows
told_in_order t project order places trees rows shows old new by at outs unchanged a =
    subst (λ xs. Tells places (map shows xs) old new rows) (filter_all (λ r. true) (trees t) (all_true (trees t)))
    (told_where t [] project order places trees [] rows (λ r. true) shows old new by at outs (λ r. refl) unchanged a)

-- rows in order are the values, where these rise
pub order_rising : (places : List ℕ) (values rows : List Row) → IsAscending (λ a b. columns_cmp places a b ≡ Less) values → IsPermutation values rows → DoNotFall places rows → rows ≡ values
order_rising places values rows rise same order = sorted_unique (columns_cmp places) (columns_total places) values rows rise same (sorted_from_low (columns_cmp places) rows order)

pub told_rising : (places : List ℕ) (values rows : List Row) (old new : State) → IsAscending (λ a b. columns_cmp places a b ≡ Less) values → Tells places values old new rows → rows ≡ values
told_rising places values rows old new rise told = order_rising places values rows rise told.same told.order
